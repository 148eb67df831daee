-- The text of a tree with more groups than the crate `regex` can count is not read.
use Rattle.std.proofs.Common.{◌≡◌, ℕ, Bool, suc, ◌+◌, ◌-◌, ◌*◌, ◌^◌, ◌≤◌, ◌<◌, List, [], ◌∷◌, ◌++◌, length, replicate, Option, Some, None, true, refl, sym, ap, ◌∙◌, subst, arith, append_assoc, le-ltb, ⊎_elim, ◌⊎◌, codes}
use Rattle.std.proofs.lemmas.Option.{none-some, same_Some}
use Rattle.std.proofs.lemmas.List.{length-replicate}
use Rattle.regex_hir.specs.Meaning.{cat_all, alt_all}
use Rattle.regex_hir.specs.Re.{Re}
use Rattle.regex_syntax.proofs.BranchLemmas.{join_after, branch_goes, more_parts, group_inside, join_parts_is, branches_go, more_branches}
use Rattle.regex_syntax.specs.Brackets.{Nested}
use Rattle.regex_syntax.specs.Grammar.{Names, atom, char_meaning, item, items, opening, capture, branches, read, join_parts}
use Rattle.regex_syntax.specs.Reading.{Text, first, skip, ◌>>=◌}
use Rattle.regex_syntax.specs.declared.Config.{Config}
use Rattle.regex_syntax.specs.Same.{SameTree}
use lib.Utf8.{scalars}
use Rattle.urlpattern_engine.proofs.TreesRead.{re_of, same_whole, tree_is_read}
use Rattle.urlpattern_meaning.specs.Dialect.{Quantifier, quantifier_text, Items, Nothing, Item, Atom, Literal, Dot, AnyBut, Captured, Grouped, items_text, atom_text, group_count, atom_group_count, AreItems, IsAtom}
use Rattle.urlpattern_expressions.specs.Expressions.{config_for}
use Rattle.urlpattern_engine.proofs.AtomsRead.{full}
use Rattle.urlpattern_engine.proofs.ItemsRead.{place, Free, repeated_as, opens_item, first_item, item_splits, free_items, part, opens_as, opens_captured, opens_grouped, atom-read}
use Rattle.urlpattern_engine.proofs.TreeTextsRead.{whole, first_line, leaf_passes}

pub within : (a b : ℕ) → (a ≤ b) ⊎ (b < a)
within a b = grind arith

module _ (ignore_case : Bool) where
  abbrev config : Config
  config = config_for ignore_case

  uncounted : (g : ℕ) (t : Text) → 2 ^ 32 ≤ g → capture (place ignore_case g (40 ∷ t)) None t ≡ None
  unfolding capture
  uncounted g t large =
      let none : Option (List ℕ) = None in
      rw (capture, length-replicate g none, le-ltb g (2 ^ 32) large)

  opens_refused : (g : ℕ) (t : Text) → Free t → 2 ^ 32 ≤ g → opening (place ignore_case g (40 ∷ t)) ≡ None
  opens_refused g t free large = opens_as ignore_case (replicate g None) t free ∙ uncounted g t large

  group_refused : (g : ℕ) (t : Text) (m n : ℕ) → m ≡ suc n → join_after cat_all [] (items n (place ignore_case g t)) ≡ None → group_inside m (place ignore_case g t) ≡ None
  group_refused g t m n e none =
      join_parts_is alt_all _ ∙ branches_go m n [] _ e ∙ ap (λ o. o >>= more_branches n []) (join_parts_is cat_all _ ∙ none)

  mutual
    unfolding first skip item

    items-refused : (tree : Items) → AreItems tree → (g : ℕ) → g ≤ 2 ^ 32 → 2 ^ 32 < g + group_count tree → (rest : Text) → Free rest → (n : ℕ)
        → 2 * length (items_text tree ++ rest) < n → (earlier : List (Nested Re))
        → join_after cat_all earlier (items n (place ignore_case g (items_text tree ++ rest))) ≡ None
    items-refused Nothing h g fits large rest free n le earlier = absurd (omega arith)
    items-refused (Item a q tree) h g fits large rest free n le earlier =
        let more = items_text tree ++ rest in
        let k = g + atom_group_count a in
        let text = atom_text a ++ (quantifier_text q ++ more) in
        let long = first_item a q tree rest n le in
        let free_more = free_items tree h.2 rest free in
        ap (λ t. join_after cat_all earlier (items n (place ignore_case g t))) (item_splits a q tree rest)
        ∙ branch_goes n (n - 1) earlier (place ignore_case g text) text (omega arith) refl (opens_item a h.0 (quantifier_text q ++ more)).1
        ∙ ⊎_elim
        (λ (inside : k ≤ 2 ^ 32).
        ap (λ o. o >>= more_parts (n - 1) earlier) (atom-read ignore_case a h.0 g inside q more free_more (n - 1) (omega arith))
        ∙ items-refused tree h.2 k inside (omega arith) rest free (n - 1) long.behind (earlier ++ repeated_as q (part ignore_case g a) ∷ []))
        (λ (outside : 2 ^ 32 < k).
        ap (λ o. o >>= more_parts (n - 1) earlier) (atom-refused a h.0 g fits outside q more free_more (n - 1) (omega arith)))
        (within k (2 ^ 32))

    atom-refused : (a : Atom) → IsAtom a → (g : ℕ) → g ≤ 2 ^ 32 → 2 ^ 32 < g + atom_group_count a → (q : Quantifier) (more : Text) → Free more → (m : ℕ)
        → 2 * length (atom_text a ++ (quantifier_text q ++ more)) ≤ m → item (group_inside m) (place ignore_case g (atom_text a ++ (quantifier_text q ++ more))) ≡ None
    atom-refused (Literal ch) h g fits large q more free m le = absurd (omega arith)
    atom-refused Dot h g fits large q more free m le = absurd (omega arith)
    atom-refused (AnyBut ch) h g fits large q more free m le = absurd (omega arith)
    atom-refused (Captured tree) h g fits large q more free m le =
        let tail = quantifier_text q ++ more in
        let t = items_text tree ++ 41 ∷ tail in
        let split : (items_text tree ++ 41 ∷ []) ++ tail ≡ t = append_assoc (items_text tree) (41 ∷ []) tail in
        let fuel : 2 * length (40 ∷ t) ≤ m = subst (λ (s : Text). 2 * length (40 ∷ s) ≤ m) split le in
        let front : Free t = free_items tree h (41 ∷ tail) refl in
        ap (λ s. item (group_inside m) (place ignore_case g (40 ∷ s))) split
        ∙ ⊎_elim
        (λ (inside : suc g ≤ 2 ^ 32).
        let none = group_refused (suc g) t m (m - 1) (omega arith) (items-refused tree h (suc g) inside (omega arith) (41 ∷ tail) refl (m - 1) (omega arith) []) in
        rw (item, opens_captured ignore_case g t front inside, none))
        (λ (outside : 2 ^ 32 < suc g). rw (item, opens_refused g t front (omega arith)))
        (within (suc g) (2 ^ 32))
    atom-refused (Grouped tree) h g fits large q more free m le =
        let tail = quantifier_text q ++ more in
        let t = items_text tree ++ 41 ∷ tail in
        let split : (items_text tree ++ 41 ∷ []) ++ tail ≡ t = append_assoc (items_text tree) (41 ∷ []) tail in
        let fuel : 2 * length (40 ∷ 63 ∷ 58 ∷ t) ≤ m = subst (λ (s : Text). 2 * length (40 ∷ 63 ∷ 58 ∷ s) ≤ m) split le in
        let none = group_refused g t m (m - 1) (omega arith) (items-refused tree h g fits large (41 ∷ tail) refl (m - 1) (omega arith) []) in
        ap (λ s. item (group_inside m) (place ignore_case g (40 ∷ 63 ∷ 58 ∷ s))) split ∙ rw (item, opens_grouped ignore_case g t, none)

  module _ (tree : Items) (h : AreItems tree) where
    abbrev inside : Text
    inside = items_text tree ++ codes "$"

    abbrev text : Text
    text = codes "^" ++ items_text tree ++ codes "$"

    branch_refused : 2 ^ 32 < suc (group_count tree) → (n : ℕ) → 2 * length text < n → join_after cat_all [] (items n (place ignore_case 1 text)) ≡ None
    unfolding first atom char_meaning skip
    branch_refused large n le =
        leaf_passes ignore_case n (n - 1) [] 1 94 inside first_line (omega arith) refl (rw (full 94 inside)) refl (free_items tree h (36 ∷ []) refl)
        ∙ items-refused tree h 1 (omega arith) (omega arith) (36 ∷ []) refl (n - 1) (omega arith) (first_line ∷ [])

    -- With more than 2 ^ 32 groups, the whole match among them, nothing is read.
    pub tree_is_refused : 2 ^ 32 < suc (group_count tree) → read config (codes "^" ++ items_text tree ++ codes "$") ≡ None
    unfolding read
    tree_is_refused large =
        let n = 2 * length text + 1 in
        let none : join_parts alt_all (branches (2 * length text + 2) (place ignore_case 1 text)) ≡ None =
        group_refused 1 text (2 * length text + 2) n (omega arith) (branch_refused large n (omega arith)) in
        rw (read, none)

    -- A text that is read has at most 2 ^ 32 groups, the whole match among them.
    pub few_groups : (found : Nested Re × Names) → read config (codes "^" ++ items_text tree ++ codes "$") ≡ Some found → suc (group_count tree) ≤ 2 ^ 32
    few_groups found e =
        ⊎_elim (λ (few : suc (group_count tree) ≤ 2 ^ 32). few) (λ (large : 2 ^ 32 < suc (group_count tree)). absurd (none-some found (sym (tree_is_refused large) ∙ e)))
        (within (suc (group_count tree)) (2 ^ 32))

  -- A text that is read is read as the pattern of the tree, with groups without names.
  pub tree_reads : (tree : Items) → AreItems tree → scalars (items_text tree) ≡ true → (found : Nested Re × Names)
      → read config (codes "^" ++ items_text tree ++ codes "$") ≡ Some found
      → (found ≡ (whole ignore_case tree, replicate (suc (group_count tree)) None)) × SameTree found.0.value (re_of ignore_case tree)
  tree_reads tree h good found e =
      let is : found ≡ (whole ignore_case tree, replicate (suc (group_count tree)) None) =
      same_Some found _ (sym e ∙ tree_is_read ignore_case tree h good (few_groups tree h found e)) in
      (is, subst (λ (f : Nested Re × Names). SameTree f.0.value (re_of ignore_case tree)) (sym is) (same_whole ignore_case tree good))
