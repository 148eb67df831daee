-- An expression from `^` to `$`, as the grammar of `regex` reads it, is found exactly in the texts
-- that the items between them match.
use Rattle.std.proofs.Common.{max, ap₂, map, option_map, ◌≡◌, ◌↔◌, ℕ, Bool, zero, suc, ◌+◌, ◌*◌, ◌<◌, ◌≤◌, List, [], ◌∷◌, ◌++◌, length, true, false, Some, None, IsSome, is_some, if◌then◌else◌, refl, sym, ap, ◌∙◌, subst, inl, inr, arith, length-append, append-nil, true≢false}
use Rattle.std.proofs.lemmas.Bool.{cond-true}
use Rattle.std.proofs.lemmas.Option.{same_Some}
use Rattle.std.proofs.lemmas.Str.{encodes-append, length-le-encodes, IsCharBoundary-start}
use lib.Utf8.{scalars, encodes}
use Rattle.regex.proofs.Utf8Lemmas.{test_of_IsCharBoundary}
use Rattle.regex_hir.proofs.AttemptLemmas.{attempt_complete, attempt_sound, cond_some, option_and_then_some}
use Rattle.regex_hir.proofs.FindLemmas.{IsFirst-of_first_between, first_between_here}
use Rattle.regex_hir.proofs.OptionLemmas.{value_of_IsSome}
use Rattle.regex_hir.specs.Find.{Match, find_str}
use Rattle.regex_hir.specs.Looks.{holds}
use Rattle.regex_hir.specs.Matches.{Matches}
use Rattle.regex_hir.specs.Meaning.{cat_all, alt_all}
use Rattle.regex_hir.specs.Re.{Re, Rest, Trace, accept, attempt}
use Rattle.regex_hir.specs.Text.{is_boundary}
use Rattle.regex_hir.specs.declared.look.Look.TheVariants.{Start, End}
use Rattle.regex_syntax.proofs.BranchLemmas.{ends_branch, group_inside}
use Rattle.regex_syntax.specs.Brackets.{Nested, join}
use Rattle.regex_syntax.proofs.GroupLemmas.{length-names_below}
use Rattle.regex_syntax.specs.Grammar.{Names, Place, atom, char_meaning, item, items, names_below, read}
use Rattle.regex_syntax.specs.Grammar as grammar
use Rattle.regex_syntax.specs.Reading.{Text, first, is_at, is_empty}
use Rattle.urlpattern_expressions.specs.Expressions.{config_for}
use Rattle.urlpattern_laws.proofs.Catching.{append_runs}
use Rattle.urlpattern_laws.proofs.Denoting.{Denotes}
use Rattle.urlpattern_laws.proofs.Runs.{Runs, attempt_runs}
use Rattle.urlpattern_laws.proofs.Senses.{Sense, Fulfils}
use Rattle.urlpattern_laws.proofs.GroupsOf.{one_branch}
use Rattle.urlpattern_laws.proofs.ItemsOf.{AreItemsOf, append_count, items_go_on, items_stop, values, values_append}
use Rattle.urlpattern_laws.proofs.Takes.{Takes, matches_takes, nothing_in, takes_matches}
use Rattle.urlpattern_meaning.specs.Dialect.{Once}
use Rattle.urlpattern_engine.proofs.AtomsRead.{full}
use Rattle.urlpattern_engine.proofs.ItemsRead.{Free, at_text, quantified}
use Rattle.urlpattern_engine.proofs.TreeSearch.{ends, not_end, not_start, starts, texts-shown}
use Rattle.urlpattern_engine.proofs.TreeTextsRead.{first_line, last_line}
use Rattle.urlpattern_engine.proofs.GroupSlots.{Shown, Spans, text_at}
use Rattle.urlpattern_engine.proofs.WayResults.{Writes, at}
use Rattle.urlpattern_meaning.specs.PartMeaning.{Captures}
use Rattle.regex.specs.Writes.{group_of}
use Rattle.std.specs.List.{range_with_len}

-- ---- the pattern read

-- The pattern of items between `^` and `$`.
abbrev pub between_lines : List (Nested Re) → Nested Re
between_lines own = join alt_all (join cat_all (first_line ∷ (own ++ last_line ∷ [])) ∷ [])

whole_is : (found : Nested Re) (all : List (Nested Re)) (part : Nested Re) (parts own more : List (Nested Re)) → found ≡ join alt_all (join cat_all all ∷ []) → all ≡ part ∷ parts → part ≡ first_line
    → parts ≡ own ++ more → more ≡ last_line ∷ [] → found ≡ between_lines own
whole_is found all part parts own more e f g h i =
    e
    ∙ ap (λ items. join alt_all (join cat_all items ∷ [])) (f ∙ ap (λ first. first ∷ parts) g ∙ ap (λ rest. first_line ∷ rest) (h ∙ ap (λ last. own ++ last) i))

module _ (ignore_case : Bool) where
  -- A character that is an item by itself, without a quantifier.
  leaf_item : (m : ℕ) (names : Names) (c : ℕ) (rest : Text) (sub found : Nested Re) (end : Place) → is_at "(" (c ∷ rest) ≡ false → atom (config_for ignore_case) (c ∷ rest) ≡ Some (sub, rest) → Free rest
      → item (group_inside m) (at_text ignore_case names (c ∷ rest)) ≡ Some (found, end) → (found ≡ sub) × (end ≡ at_text ignore_case names rest)
  unfolding item
  leaf_item m names c rest sub found end no_group reads free e =
      let is : item (group_inside m) (at_text ignore_case names (c ∷ rest)) ≡ Some (sub, at_text ignore_case names rest) = rw (item, no_group, reads) (quantified ignore_case Once sub names rest free) in
      let same = same_Some _ _ (sym is ∙ e) in
      (sym (ap (λ (result : Nested Re × Place). result.0) same), sym (ap (λ (result : Nested Re × Place). result.1) same))

  module _ (t : Text) (s : Sense) (a : AreItemsOf ignore_case t s) where
    abbrev inside : Text
    inside = t ++ 36 ∷ []

    -- The pattern read is items with this sense between `^` and `$`, with as many groups.
    pub record WholeFound (found : Nested Re) : Type 0 where
      pub own : List (Nested Re)
      pub is : found ≡ between_lines own
      pub fulfils : Fulfils ignore_case s 1 (cat_all (values own))

    last_read : (n : ℕ) (names : Names) (more : List (Nested Re)) (end : Place) → items n (at_text ignore_case names (36 ∷ [])) ≡ Some (more, end) → (more ≡ last_line ∷ []) × (is_at "|" end.text ≡ false)
    unfolding first atom char_meaning
    last_read n names more end e =
        let is = items_go_on ignore_case n names (36 ∷ []) more end refl e in
        let leaf = leaf_item is.steps names 36 [] last_line is.part is.after refl refl refl is.one in
        let stop = items_stop ignore_case is.steps names [] is.parts end refl (ap (items is.steps) (sym leaf.1) ∙ is.more) in (
          is.all ∙ ap (λ part. part ∷ is.parts) leaf.0 ∙ ap (λ parts. last_line ∷ parts) stop.0,
          ap (λ (p : Place). is_at "|" p.text) stop.1,
        )

    inside_read : (n : ℕ) (found : Nested Re) (end : Place) → group_inside n (at_text ignore_case (None ∷ []) (94 ∷ inside)) ≡ Some (found, end) → WholeFound found
    unfolding first atom char_meaning
    inside_read n found end e =
        let names : Names = None ∷ [] in
        let branch = one_branch n (at_text ignore_case names (94 ∷ inside)) found end e in
        let begins : ends_branch (94 ∷ inside) ≡ false = rw (full 94 inside) refl in
        let is = items_go_on ignore_case branch.steps names (94 ∷ inside) branch.parts branch.after begins branch.read_items in
        let leaf = leaf_item is.steps names 94 inside first_line is.part is.after refl refl (a.starts (36 ∷ []) refl) is.one in
        let items_found = a.reads (36 ∷ []) refl is.steps names is.parts branch.after (ap (items is.steps) (sym leaf.1) ∙ is.more) in
        let last = last_read items_found.front.steps items_found.front.names items_found.front.more branch.after items_found.front.goes_on in
        record {
          own = items_found.front.own;
          is = whole_is found branch.parts is.part is.parts items_found.front.own items_found.front.more (branch.goes last.1).0 is.all leaf.0 items_found.front.cut last.0;
          fulfils = items_found.fulfils;
        }

    -- The pattern read, with the number of its names.
    pub record WholeNamed (found : Nested Re × Names) : Type 0 where
      pub pattern : WholeFound found.0
      pub numbers : s.Known → length found.1 ≡ 1 + s.count

    named : (tree : Nested Re) (names : Names) → WholeFound tree → WholeNamed (tree, names_below tree.value names (max 1 (grammar.group_count tree.value)))
    named tree names w = record {
      pattern = w;
      numbers = λ k.
          omega (
            arith,
            length-names_below tree.value names (max 1 (grammar.group_count tree.value)),
            ap (λ (other : Nested Re). grammar.group_count other.value) w.is,
            append_count w.own (last_line ∷ []),
            w.fulfils.numbered k,
          );
    }

    pub whole_read : (found : Nested Re × Names) → read (config_for ignore_case) (94 ∷ inside) ≡ Some found → WholeNamed found
    unfolding read
    whole_read found e =
        let n = 2 * length (94 ∷ inside) + 2 in
        let whole = option_and_then_some _ (group_inside n (at_text ignore_case (None ∷ []) (94 ∷ inside))) found e in
        let ended = cond_some (is_empty whole.0.1.text) _ found whole.2 in
        subst WholeNamed (same_Some _ _ ended.1) (named whole.0.0 whole.0.1.names (inside_read n whole.0.0 whole.0.1 whole.1))

-- ---- where the pattern is found

append_matches : (hay : List ℕ) (trees others : List (Nested Re)) (i j : ℕ) → Matches hay (cat_all (values (trees ++ others))) i j
    ↔ ((l : ℕ) × Matches hay (cat_all (values trees)) i l × Matches hay (cat_all (values others)) l j)
append_matches hay [] others i j = (λ m. (i, refl, m), λ (l, same, m). subst (λ k. Matches hay (cat_all (values others)) k j) same m)
append_matches hay (tree ∷ trees) others i j = (
  λ (k, one, more). let is = (append_matches hay trees others k j).0 more in (is.0, (k, one, is.1), is.2),
  λ (l, (k, one, more), last). (k, one, (append_matches hay trees others k j).1 (l, more, last)),
)

at_zero : (hay : List ℕ) (i : ℕ) → i ≤ length hay → holds Start hay i ≡ true → i ≡ 0
at_zero hay zero le h = refl
at_zero hay (suc i) le h = absurd (true≢false (sym h ∙ not_start hay (suc i) (omega arith) le))

module _ (own : List (Nested Re)) (Is : List ℕ → Type 0) (d : Denotes (cat_all (values own)) Is) (text : List ℕ) (good : scalars text ≡ true) where
  abbrev hay : List ℕ
  hay = encodes text

  abbrev whole : Re
  whole = (between_lines own).value

  all_taken : (taken rest : List ℕ) → text ≡ taken ++ rest → holds End hay (at taken) ≡ true → text ≡ taken
  all_taken taken [] cut h = cut ∙ append-nil taken
  all_taken taken (c ∷ rest) cut h =
      let inside : at taken < length hay =
      omega (arith, ap at cut, ap length (encodes-append taken (c ∷ rest)), length-append (encodes taken) (encodes (c ∷ rest)), length-le-encodes (c ∷ rest)) in
      absurd (true≢false (sym h ∙ not_end hay (at taken) inside))

  match_is : (i j : ℕ) → i ≤ length hay → Matches hay whole i j → Is text
  match_is i j le (inl (l, (start, same), more)) =
      let zero_is : l ≡ 0 = same ∙ at_zero hay i le start in
      let parts = (append_matches hay own (last_line ∷ []) l j).0 more in
      let found = matches_takes text good (cat_all (values own)) d.plain [] text refl parts.0 (subst (λ k. Matches hay (cat_all (values own)) k parts.0) zero_is parts.1) in
      let ended : holds End hay (at found.0) ≡ true = ap (holds End hay) (sym found.3) ∙ parts.2.1.0 in
      let all = all_taken found.0 found.1 found.2 ended in
      (d.same text good).0 (subst (Takes (cat_all (values own))) (sym all) found.4)
  match_is i j le (inr none) = absurd (nothing_in none.0 none.2)

  is_match : Is text → Matches hay whole 0 (length hay)
  is_match is =
      let takes = (d.same text good).1 is in
      let matches = takes_matches text good (cat_all (values own)) d.plain [] text [] (append-nil text) takes in
      inl (0, (starts hay, refl), (append_matches hay own (last_line ∷ []) 0 (length hay)).1 (length hay, matches, (length hay, (ends hay (length hay) (omega arith), refl), refl)))

  abbrev at_place : Rest
  at_place i = if is_boundary hay i then attempt hay whole accept i else None

  found_is : (m : Match) → find_str whole hay 0 ≡ Some m → Is text
  unfolding find_str
  found_is m e =
      let first = IsFirst-of_first_between at_place 0 (length hay) m e in
      let here = cond_some (is_boundary hay m.start) (attempt hay whole accept m.start) m.trace first.here in
      let c = attempt_sound hay whole accept m.start m.trace here.1 in
      match_is m.start c.at first.to c.leads

  is_found : Is text → IsSome (find_str whole hay 0)
  unfolding find_str
  is_found is =
      let t = value_of_IsSome _ (attempt_complete hay whole accept 0 (length hay) (is_match is) refl) in
      let here : at_place 0 ≡ Some t.0 = cond-true (is_boundary hay 0) _ None (test_of_IsCharBoundary hay 0 (IsCharBoundary-start hay (text, (good, refl)))) ∙ t.1 in
      ap is_some (first_between_here at_place 0 (length hay) t.0 (omega arith) here)

  pub search_is : IsSome (find_str whole hay 0) ↔ Is text
  search_is = (λ some. let m = value_of_IsSome (find_str whole hay 0) some in found_is m.0 m.1, is_found)

-- ---- the captures of the groups

module _ (own : List (Nested Re)) (s : Sense) (f : Fulfils false s 1 (cat_all (values own))) (known : s.Known) (text : List ℕ) (good : scalars text ≡ true) where
  abbrev bytes : List ℕ
  bytes = encodes text

  abbrev pattern : Re
  pattern = (between_lines own).value

  -- The whole text has these captures, which the writes show.
  abbrev IsCaught : Writes → Type 0
  IsCaught writes = (captures : Captures) × s.Cap text captures × (length captures ≡ s.count) × Shown bytes 1 captures writes

  -- The `$` at the end writes nothing.
  ends_run : (k j : ℕ) (writes : Writes) → Runs bytes (cat_all (last_line.value ∷ [])) k j writes → (holds End bytes k ≡ true) × (writes ≡ [])
  ends_run k j writes (e, last, nothing, ((ended, here), no_last), (stays, no_more), both_are) = (ended, both_are ∙ ap₂ (λ (x y : Writes). x ++ y) no_last no_more)

  run_is : (i j : ℕ) (writes : Writes) → i ≤ length bytes → Runs bytes pattern i j writes → IsCaught writes
  run_is i j writes le (inl (l, none, more, ((start, same), no_first), run, all)) =
      let zero_is : l ≡ 0 = same ∙ at_zero bytes i le start in
      let split = append_runs bytes (values own) (last_line.value ∷ []) l j more (subst (λ trees. Runs bytes (cat_all trees) l j more) (values_append own (last_line ∷ [])) run) in
      let last = ends_run split.0 j split.2 split.4 in
      let c = (f.catches refl known).sound text good [] text refl split.0 split.1 (subst (λ h. Runs bytes (cat_all (values own)) h split.0 split.1) zero_is split.3) in
      let ended : holds End bytes (at c.taken) ≡ true = ap (holds End bytes) (sym c.ends) ∙ last.0 in
      let whole_text : text ≡ c.taken = all_taken own s.Is (f.denotes refl) text good c.taken c.rest c.cut ended in
      let written : writes ≡ split.1 = all ∙ ap (λ (ws : Writes). ws ++ more) no_first ∙ split.5 ∙ ap (λ ws. split.1 ++ ws) last.1 ∙ append-nil split.1 in
      (c.captures, subst (λ t. s.Cap t c.captures) (sym whole_text) c.is, c.counted, subst (λ ws. Shown bytes 1 c.captures ws) (sym written) c.shown)
  run_is i j writes le (inr none) = absurd (nothing_in none.0.0 none.0.2)

  pub found_captures : (m : Match) → find_str pattern bytes 0 ≡ Some m → s.Cap text (map (λ k. option_map (text_at bytes) (group_of m k)) (range_with_len 1 s.count))
  unfolding find_str
  found_captures m e =
      let first = IsFirst-of_first_between (λ i. if is_boundary bytes i then attempt bytes pattern accept i else None) 0 (length bytes) m e in
      let here = cond_some (is_boundary bytes m.start) (attempt bytes pattern accept m.start) m.trace first.here in
      let c = attempt_runs bytes pattern accept m.start m.trace here.1 in
      let writes : m.trace.writes ≡ c.own =
      ap (λ (t : Trace). t.writes) c.all ∙ ap (λ (t : Trace). c.own ++ t.writes) (sym (same_Some _ _ c.gave)) ∙ append-nil c.own in
      let caught = run_is m.start c.at c.own first.to c.leads in
      let texts = texts-shown bytes m 1 caught.0 (omega arith) (subst (Spans bytes 1 caught.0) (sym writes) caught.3.1) in
      let all : map (λ k. option_map (text_at bytes) (group_of m k)) (range_with_len 1 s.count) ≡ caught.0 =
      ap (λ n. map (λ k. option_map (text_at bytes) (group_of m k)) (range_with_len 1 n)) (sym caught.2) ∙ texts in
      subst (s.Cap text) (sym all) caught.1
