-- Groups that the grammar of `regex` reads, at any place, as items that match exactly certain
-- texts: of items, or of an expression that stands alone.
use Rattle.std.proofs.Common.{◌≡◌, ℕ, Bool, zero, suc, ◌+◌, ◌^◌, List, [], ◌∷◌, ◌++◌, length, true, false, Option, Some, None, nat_lt, refl, sym, ap, ◌∙◌, subst, append-nil, arith}
use Rattle.std.proofs.lemmas.List.{length_push}
use Rattle.std.proofs.lemmas.Option.{none-some, same_Some}
use Rattle.regex_hir.proofs.AttemptLemmas.{cond_some, option_and_then_some}
use Rattle.regex_hir.specs.Meaning.{cat_all, alt_all}
use Rattle.regex_hir.specs.Re.{Re, group}
use Rattle.regex_syntax.proofs.BranchLemmas.{ends_branch, group_inside}
use Rattle.regex_syntax.specs.Brackets.{Nested, join}
use Rattle.regex_syntax.specs.Grammar.{Names, Place, Opening, opens, item, items, branches, join_parts, opening, capture, set_flags, rest_of_group}
use Rattle.regex_syntax.specs.Reading.{Text, first, skip, is_at}
use Rattle.urlpattern_expressions.specs.Expressions.{config_for}
use Rattle.urlpattern_laws.proofs.Senses.{Sense, Fulfils, fulfils_alone, fulfils_group, whole}
use Rattle.urlpattern_laws.proofs.ItemsOf.{values, AreItemsOf, IsItemOf, ItemFound, items_stop}
use Rattle.urlpattern_engine.proofs.AtomsRead.{full}
use Rattle.urlpattern_engine.proofs.ItemsRead.{Free, at_text, brackets, level, opens_as}
use Rattle.urlpattern_syntax.specs.RegexpText.{captured, grouped}

-- A single branch.
pub record OneBranch (n : ℕ) (p : Place) (found : Nested Re) (end : Place) : Type 0 where
  pub steps : ℕ
  pub parts : List (Nested Re)
  pub after : Place
  pub read_items : items steps p ≡ Some (parts, after)
  pub goes : is_at "|" after.text ≡ false → (found ≡ join alt_all (join cat_all parts ∷ [])) × (end ≡ after)

pub one_branch : (n : ℕ) (p : Place) (found : Nested Re) (end : Place) → group_inside n p ≡ Some (found, end) → OneBranch n p found end
unfolding branches join_parts
one_branch zero p found end e = absurd (none-some _ e)
one_branch (suc n) p found end e =
    let all = option_and_then_some _ (branches (suc n) p) (found, end) e in
    let branch = option_and_then_some _ (join_parts cat_all (items n p)) all.0 all.1 in
    let parts = option_and_then_some _ (items n p) branch.0 branch.1 in
    let same = same_Some _ _ parts.2 in
    let tree : join cat_all parts.0.0 ≡ branch.0.0 = ap (λ (result : Nested Re × Place). result.0) same in
    let after : parts.0.1 ≡ branch.0.1 = ap (λ (result : Nested Re × Place). result.1) same in
    record {
      steps = n;
      parts = parts.0.0;
      after = parts.0.1;
      read_items = parts.1;
      goes = λ stops. only found end all.0 branch.0 (join cat_all parts.0.0) parts.0.1 tree after all.2 (rw (ap (λ (q : Place). is_at "|" q.text) (sym after) ∙ stops) at branch.2);
    }
  where
    only : (found : Nested Re) (end : Place) (all : List (Nested Re) × Place) (branch : Nested Re × Place) (tree : Nested Re) (after : Place) → tree ≡ branch.0 → after ≡ branch.1
        → ◌≡◌ {A = Option (Nested Re × Place)} (Some (join alt_all all.0, all.1)) (Some (found, end)) → ◌≡◌ {A = Option (List (Nested Re) × Place)} (Some (branch.0 ∷ [], branch.1)) (Some all) → (found ≡ join alt_all (tree ∷ [])) × (end ≡ after)
    only found end all branch tree after is_tree is_after e f =
        let whole = same_Some _ _ e in
        let one = same_Some _ _ f in (
          sym (ap (λ (result : Nested Re × Place). result.0) whole) ∙ ap (λ (result : List (Nested Re) × Place). join alt_all result.0) (sym one) ∙ ap (λ t. join alt_all (t ∷ [])) (sym is_tree),
          sym (ap (λ (result : Nested Re × Place). result.1) whole) ∙ ap (λ (result : List (Nested Re) × Place). result.1) (sym one) ∙ sym is_after,
        )

close_text : (rest : Text) → is_at "|" (41 ∷ rest) ≡ false
unfolding first
close_text rest = refl

closes : (rest : Text) → ends_branch (41 ∷ rest) ≡ true
unfolding first
closes rest = rw (full 41 rest) refl

pub free_close : (rest : Text) → Free (41 ∷ rest)
unfolding first
free_close rest = refl

one_more : (names : Names) → length (names ++ None ∷ []) ≡ suc (length names)
one_more names = let none : Option (List ℕ) = None in omega (arith, length_push names none)

module _ (ignore_case : Bool) where
  -- ---- the content of groups

  -- The text before the closing parenthesis is read as a pattern with this sense.
  pub record InsideFound (s : Sense) (rest : Text) (before : Names) (found : Nested Re) (end : Place) : Type 0 where
    pub at_close : end.text ≡ 41 ∷ rest
    pub numbers : s.Known → length end.names ≡ length before + s.count
    pub fulfils : Fulfils ignore_case s (length before) found.value

  -- Before a closing parenthesis, at any place, the text is read as a pattern with this sense.
  pub record IsInside (t : Text) (s : Sense) : Type 0 where
    pub starts : (rest : Text) → Free (t ++ 41 ∷ rest)
    -- A pattern with this sense exists.
    pub made : s.Known → (g : ℕ) → (tree : Nested Re) × Fulfils ignore_case s g tree.value
    pub reads : (rest : Text) (n : ℕ) (names : Names) (found : Nested Re) (end : Place) → group_inside n (at_text ignore_case names (t ++ 41 ∷ rest)) ≡ Some (found, end) → InsideFound s rest names found end

  pub items_inside : (t : Text) (s : Sense) → AreItemsOf ignore_case t s → IsInside t s
  items_inside t s a = record {
    starts = λ rest. a.starts (41 ∷ rest) (free_close rest);
    made = λ k g. let is = a.made k g in (join alt_all (join cat_all is.0 ∷ []), fulfils_alone ignore_case s g (cat_all (values is.0)) is.1);
    reads = λ rest n names found end e.
        let branch = one_branch n (at_text ignore_case names (t ++ 41 ∷ rest)) found end e in
        let is = a.reads (41 ∷ rest) (free_close rest) branch.steps names branch.parts branch.after branch.read_items in
        let stop = items_stop ignore_case is.front.steps is.front.names (41 ∷ rest) is.front.more branch.after (closes rest) is.front.goes_on in
        let all : branch.parts ≡ is.front.own = is.front.cut ∙ ap (λ more. is.front.own ++ more) stop.0 ∙ append-nil is.front.own in
        let at_mark : is_at "|" branch.after.text ≡ false = ap (λ (p : Place). is_at "|" p.text) stop.1 ∙ close_text rest in
        let goes = branch.goes at_mark in
        let ends : end ≡ at_text ignore_case is.front.names (41 ∷ rest) = goes.1 ∙ stop.1 in
        record {
          at_close = ap (λ (p : Place). p.text) ends;
          numbers = λ k. ap (λ (p : Place). length p.names) ends ∙ is.numbers k;
          fulfils =
              subst (λ (tree : Nested Re). Fulfils ignore_case s (length names) tree.value) (sym (goes.0 ∙ ap (λ parts. join alt_all (join cat_all parts ∷ [])) all))
              (fulfils_alone ignore_case s (length names) (cat_all (values is.front.own)) is.fulfils);
        };
  }

  -- ---- groups

  -- A group is read in the sense `u`, if its content is read in the sense `s`.
  closed_group : (inner : Place → Option (Nested Re × Place)) (make : Re → Re) (inside : Place) (s u : Sense) (rest : Text) (before : Names) (found : Nested Re) (end : Place)
      → ((tree : Nested Re) (after : Place) → inner inside ≡ Some (tree, after) → InsideFound s rest inside.names tree after)
      → ((re : Re) → Fulfils ignore_case s (length inside.names) re → Fulfils ignore_case u (length before) (make re))
      → (u.Known → s.Known) → ((n : ℕ) → n ≡ length inside.names + s.count → n ≡ length before + u.count)
      → rest_of_group inner (config_for ignore_case) (opens make) inside ≡ Some (found, end) → ItemFound ignore_case u rest before found end
  unfolding first
  closed_group inner make inside s u rest before found end reads makes known counted e =
      let tree = option_and_then_some _ (inner inside) (found, end) e in
      let is = reads tree.0.0 tree.0.1 tree.1 in
      record {
        core = level make tree.0.0;
        names = tree.0.1.names;
        repeats = rw (is.at_close) at tree.2;
        numbers = λ k. counted (length tree.0.1.names) (is.numbers (known k));
        fulfils = makes tree.0.0.value is.fulfils;
      }

  pub grouped_item : (t : Text) (s : Sense) → IsInside t s → IsItemOf ignore_case (grouped t) s
  unfolding item opening set_flags first skip
  grouped_item t s a = record {
    opens = λ rest. (refl, rw (full 40 (63 ∷ 58 ∷ ((t ++ 41 ∷ []) ++ rest))) refl);
    made = a.made;
    reads = λ rest n names found end e.
        closed_group (group_inside n) (λ re. re) (at_text ignore_case names (t ++ 41 ∷ rest)) s s rest names found end (λ tree after f. a.reads rest n names tree after f) (λ re f. f) (λ k. k) (λ m same. same)
        (ap (λ v. item (group_inside n) (at_text ignore_case names (40 ∷ 63 ∷ 58 ∷ v))) (sym (brackets t rest)) ∙ e);
  }

  fulfils_captured : (s : Sense) (names : Names) (re : Re) → Fulfils ignore_case s (length (names ++ None ∷ [])) re → Fulfils ignore_case (whole s) (length names) (group (length names) re)
  fulfils_captured s names re f = fulfils_group ignore_case s (length names) re (subst (λ g. Fulfils ignore_case s g re) (one_more names) f)

  pub captured_item : (t : Text) (s : Sense) → IsInside t s → IsItemOf ignore_case (captured t) (whole s)
  unfolding item capture first
  captured_item t s a = record {
    opens = λ rest. (refl, rw (full 40 ((t ++ 41 ∷ []) ++ rest)) refl);
    made = λ k g. let is = a.made k (suc g) in (level (group g) is.0, fulfils_group ignore_case s g is.0.value is.1);
    reads = λ rest n names found end e.
        let inside = t ++ 41 ∷ rest in
        let f : item (group_inside n) (at_text ignore_case names (40 ∷ inside)) ≡ Some (found, end) = ap (λ v. item (group_inside n) (at_text ignore_case names (40 ∷ v))) (sym (brackets t rest)) ∙ e in
        let how = option_and_then_some _ (opening (at_text ignore_case names (40 ∷ inside))) (found, end) f in
        let opened = cond_some (nat_lt (length names) (2 ^ 32)) _ how.0 (sym (opens_as ignore_case names inside (a.starts rest)) ∙ how.1) in
        let same = same_Some _ _ opened.1 in
        let next = at_text ignore_case (names ++ None ∷ []) inside in
        closed_group (group_inside n) (group (length names)) next s (whole s) rest names found end (λ tree after g. a.reads rest n (names ++ None ∷ []) tree after g) (fulfils_captured s names) (λ k. k)
        (λ m is. omega (arith, is, one_more names))
        (ap (λ (o : Opening × Place). rest_of_group (group_inside n) (config_for ignore_case) o.0 o.1) same ∙ how.2);
  }
