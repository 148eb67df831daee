-- An expression that stands alone is read in a group as a pattern that matches the texts of the
-- expression.
use Rattle.std.proofs.Common.{◌≡◌, ◌↔◌, ℕ, ◌+◌, ◌*◌, Bool, List, [], ◌∷◌, ◌++◌, length, true, false, ◌==◌, Some, None, refl, sym, ap, ◌∙◌, subst, arith, ne_eqb, length-append, ⊎_elim, append-nil, eqb-true}
use Rattle.std.proofs.lemmas.Bool.{and_parts, both_ways, cases_Bool}
use Rattle.std.proofs.lemmas.List.{nil_from_length}
use Rattle.std.proofs.lemmas.Option.{none-some, same_Some}
use Rattle.std.proofs.lemmas.Str.{encodes-append, length-le-encodes}
use Rattle.std.specs.Prelude.{IsTrue}
use lib.Utf8.{scalars, encodes}
use Rattle.regex_hir.proofs.AttemptLemmas.{cond_some, is_some_and_parts, option_and_then_some}
use Rattle.regex_hir.specs.Meaning.{alt_all}
use Rattle.regex_hir.specs.Re.{Re}
use Rattle.regex_syntax.proofs.BranchLemmas.{ends_branch, group_inside}
use Rattle.regex_syntax.specs.Brackets.{Nested}
use Rattle.regex_syntax.specs.Grammar.{Names, Place, atom, branches, item, join_parts, read}
use Rattle.regex_syntax.specs.Reading.{Text, ◌∈◌, first, is_empty}
use Rattle.urlpattern_laws.proofs.BranchesClosed.{inside_closed}
use Rattle.urlpattern_laws.proofs.Bare.{bare}
use Rattle.urlpattern_laws.proofs.Choices.{Cuts, Tries, pattern_cuts, tries_pattern, ways_bare}
use Rattle.urlpattern_laws.proofs.Closing.{Calm, closed}
use Rattle.urlpattern_laws.proofs.Denoting.{Denotes, denotes_bare, plain_bare}
use Rattle.urlpattern_laws.proofs.GroupsOf.{IsInside, free_close, one_branch}
use Rattle.urlpattern_laws.proofs.ItemsOf.{items_go_on}
use Rattle.urlpattern_laws.proofs.Catching.{groupless_bare}
use Rattle.urlpattern_laws.proofs.Senses.{Sense, Fulfils, fulfils_quiet, quiet}
use Rattle.urlpattern_laws.proofs.Takes.{Takes, matches_takes, takes_matches}
use Rattle.urlpattern_expressions.specs.Expressions.{ExpressionMatches, MatchesWhole, captures_nothing_by, config_for, is_groupless, is_self_contained_by, matches_characters}
use Rattle.urlpattern_expressions.specs.PartWays.{expression_ways_as, pattern_ways, ways_of_reading}
use Rattle.urlpattern_engine.proofs.AtomsRead.{full}
use Rattle.urlpattern_engine.proofs.ItemsRead.{Free, at_text}

-- ---- whole texts

nothing_left : (text taken rest : List ℕ) → text ≡ taken ++ rest → length (encodes text) ≡ length (encodes taken) → rest ≡ []
nothing_left text taken rest cut e =
    nil_from_length rest
    (omega (arith, ap (λ t. length (encodes t)) cut, ap length (encodes-append taken rest), length-append (encodes taken) (encodes rest), length-le-encodes rest))

-- A pattern of characters matches a whole text exactly if it matches the text character by
-- character.
pub whole_takes : (re : Re) → matches_characters re ≡ true → (text : List ℕ) → scalars text ≡ true → Takes re text ↔ MatchesWhole re text
whole_takes re h text good = (
  λ takes. takes_matches text good re h [] text [] (append-nil text) takes,
  λ matches.
      let found = matches_takes text good re h [] text refl (length (encodes text)) matches in
      subst (Takes re) (sym (found.2 ∙ ap (λ t. found.0 ++ t) (nothing_left text found.0 found.1 found.2 found.3) ∙ append-nil found.0)) found.4,
)

-- A character that begins no quantifier differs from those that do.
quantifier_first : (c : ℕ) → (c ∈ "?*+{") ≡ true → (d : ℕ) → (d ∈ "?*+{") ≡ false → (c == d) ≡ false
quantifier_first c h d other = ne_eqb c d (λ e. both_ways _ other (ap (λ x. x ∈ "?*+{") (sym e) ∙ h))

module _ (ignore_case : Bool) where
  -- ---- expressions by themselves

  -- The result of reading the expression by itself.
  pub record IsReadAlone (expression : List ℕ) : Type 0 where
    pub tree : Nested Re
    pub end : Place
    pub names : Names
    pub is_read : read (config_for ignore_case) expression ≡ Some (tree, names)
    pub inside : group_inside (2 * length expression + 2) (at_text ignore_case (None ∷ []) expression) ≡ Some (tree, end)
    pub ends : end.text ≡ []
    pub plain : matches_characters tree.value ≡ true
    pub calm : Calm expression

  read_alone : (expression : List ℕ) → is_self_contained_by ignore_case expression ≡ true → IsReadAlone expression
  unfolding is_self_contained_by read
  read_alone expression h =
      let both = and_parts _ _ h in
      let found = is_some_and_parts (read (config_for ignore_case) expression) _ both.1 in
      let whole = option_and_then_some _ (group_inside (2 * length expression + 2) (at_text ignore_case (None ∷ []) expression)) found.0 found.1 in
      let ended = cond_some (is_empty whole.0.1.text) _ found.0 whole.2 in
      let same : whole.0.0 ≡ found.0.0 = ap (λ (result : Nested Re × Names). result.0) (same_Some _ _ ended.1) in
      record {
        tree = found.0.0;
        end = whole.0.1;
        names = found.0.1;
        is_read = found.1;
        inside = whole.1 ∙ ap (λ tree. Some (tree, whole.0.1)) same;
        ends = empty_text whole.0.1.text ended.0;
        plain = found.2;
        calm = both.0;
      }
    where
      empty_text : (t : Text) → is_empty t ≡ true → t ≡ []
      empty_text t e = nil_from_length t (eqb-true (length t) 0 e)

  no_quantifier : (n : ℕ) (names : Names) (c : ℕ) (t : Text) (tree : Nested Re) (end : Place) → (c ∈ "?*+{") ≡ true → group_inside n (at_text ignore_case names (c ∷ t)) ≡ Some (tree, end) → ⊥
  unfolding item atom first
  no_quantifier n names c t tree end h e =
      let branch = one_branch n (at_text ignore_case names (c ∷ t)) tree end e in
      let goes_on : ends_branch (c ∷ t) ≡ false = rw (full c t, quantifier_first c h 124 refl, quantifier_first c h 41 refl) refl in
      let is = items_go_on ignore_case branch.steps names (c ∷ t) branch.parts branch.after goes_on branch.read_items in
      let none : item (group_inside is.steps) (at_text ignore_case names (c ∷ t)) ≡ None = rw (item, quantifier_first c h 40 refl, atom, h) refl in
      none-some _ (sym none ∙ is.one)

  free_alone : (expression rest : List ℕ) (n : ℕ) (names : Names) (tree : Nested Re) (end : Place) → group_inside n (at_text ignore_case names expression) ≡ Some (tree, end) → Free (expression ++ 41 ∷ rest)
  unfolding first
  free_alone [] rest n names tree end e = free_close rest
  free_alone (c ∷ t) rest n names tree end e =
      ⊎_elim
      (λ (quantifier : (c ∈ "?*+{") ≡ true). absurd (no_quantifier n names c t tree end quantifier e))
      (λ (other : (c ∈ "?*+{") ≡ false). other)
      (cases_Bool (c ∈ "?*+{"))

  -- ---- expressions in groups

  pub denotes_expression : (expression : List ℕ) (alone : IsReadAlone expression) → ignore_case ≡ false → Denotes alone.tree.value (ExpressionMatches expression)
  denotes_expression expression alone kept = record {
    plain = alone.plain;
    same = λ text good.
        let whole = whole_takes alone.tree.value alone.plain text good in
        let reads = subst (λ (b : Bool). read (config_for b) expression ≡ Some (alone.tree, alone.names)) kept alone.is_read in
        (λ takes. rw reads (whole.0 takes), λ is. whole.1 (rw reads at is));
  }

  -- An expression without captures opens no group.
  silent_alone : (expression : List ℕ) (alone : IsReadAlone expression) → captures_nothing_by ignore_case expression ≡ true → (length alone.end.names ≡ 1) × (is_groupless alone.tree.value ≡ true)
  unfolding captures_nothing_by join_parts
  silent_alone expression alone h =
      let found = is_some_and_parts (branches (2 * length expression + 2) (at_text ignore_case (None ∷ []) expression)) _ h in
      let both = and_parts _ _ found.2 in
      let same = same_Some _ _ (sym (ap (join_parts alt_all) found.1) ∙ alone.inside) in (
        sym (ap (λ (result : Nested Re × Place). length result.1.names) same) ∙ eqb-true (length found.0.1.names) 1 both.0,
        sym (ap (λ (result : Nested Re × Place). is_groupless result.0.value) same) ∙ both.1,
      )

  -- The ways of a pattern that is read in a group are those of the expression by itself.
  ways_alone : (expression : List ℕ) (alone : IsReadAlone expression) (found : Re) → bare found ≡ bare alone.tree.value → pattern_ways found ≡ expression_ways_as (config_for ignore_case) expression
  ways_alone expression alone found e =
      sym (ways_bare found) ∙ ap pattern_ways e ∙ ways_bare alone.tree.value
      ∙ ap ways_of_reading (sym alone.is_read)

  -- The sense of an expression: its texts, its ways, and no captures, if it captures nothing.
  abbrev pub expression_sense : List ℕ → Sense
  expression_sense expression = quiet (IsTrue (captures_nothing_by ignore_case expression)) (ExpressionMatches expression) (expression_ways_as (config_for ignore_case) expression)

  -- A pattern that equals that of the expression, except for the numbers of groups, fulfils its
  -- sense.
  fulfils_expression : (expression : List ℕ) (alone : IsReadAlone expression) (g : ℕ) (found : Re) → bare found ≡ bare alone.tree.value → Fulfils ignore_case (expression_sense expression) g found
  fulfils_expression expression alone g found e =
      let plain : matches_characters found ≡ true = sym (plain_bare found) ∙ ap matches_characters e ∙ plain_bare alone.tree.value ∙ alone.plain in
      let silent : IsTrue (captures_nothing_by ignore_case expression) → is_groupless found ≡ true = λ k.
      sym (groupless_bare found) ∙ ap is_groupless e ∙ groupless_bare alone.tree.value ∙ (silent_alone expression alone k).1 in
      let ways = ways_alone expression alone found e in
      fulfils_quiet ignore_case (IsTrue (captures_nothing_by ignore_case expression)) (ExpressionMatches expression) (expression_ways_as (config_for ignore_case) expression) g found plain
      (λ kept. denotes_bare alone.tree.value found (ExpressionMatches expression) e (denotes_expression expression alone kept)) silent (λ k. subst (λ choice. Cuts choice 0) ways (pattern_cuts found))
      (λ k. subst (λ choice. Tries g choice found) ways (tries_pattern found plain (silent k) g))

  pub custom_inside : (expression : List ℕ) → IsTrue (is_self_contained_by ignore_case expression) → IsInside ignore_case expression (expression_sense expression)
  custom_inside expression h =
      let alone = read_alone expression h in
      let p = at_text ignore_case (None ∷ []) expression in
      record {
        starts = λ rest. free_alone expression rest (2 * length expression + 2) (None ∷ []) alone.tree alone.end alone.inside;
        made = λ k g. (alone.tree, fulfils_expression expression alone g alone.tree.value refl);
        reads = λ rest n names found end e.
            let alike = inside_closed rest 1 (length names) (2 * length expression + 2) n p names (alone.calm, omega arith) in
            let holds = rw (alone.inside, e) at alike.holds in
            record {
              at_close = ap (λ (q : Place). q.text) holds.1 ∙ ap (λ t. closed rest t) alone.ends;
              numbers = λ k. omega (arith, holds.2.1, (silent_alone expression alone k).0);
              fulfils = fulfils_expression expression alone (length names) found.value holds.0;
            };
      }
