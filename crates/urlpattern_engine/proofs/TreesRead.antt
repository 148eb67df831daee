-- The text of a tree is read as the pattern of the tree, with as many groups.
use Rattle.std.proofs.Common.{◌≡◌, ℕ, Bool, suc, ◌+◌, ◌^◌, replicate, ◌≤◌, max, List, [], ◌∷◌, ◌++◌, map, Some, None, true, false, not, ◌&&◌, ◌==◌, refl, sym, ap, ◌∙◌, arith, codes, encode_utf8, nat_lt, nat_le, lt-ltb, eqb-true, ⊎_elim}
use Rattle.std.proofs.lemmas.Bool.{and_parts, and_right, and_from, cases_Bool}
use Rattle.std.proofs.lemmas.Bool.Decides.{nat_tests}
use Rattle.std.proofs.lemmas.List.{map_push}
use Rattle.std.proofs.Math.Path.{fun_ext}
use Rattle.std.specs.Char.{IsScalar}
use lib.Utf8.{scalars}
use Rattle.regex_class.proofs.RangesLemmas.{or-false}
use Rattle.regex_hir.proofs.Utf8Lemmas.{InScalarRange-of_IsScalar}
use Rattle.regex_hir.specs.declared.look.Look.TheVariants.{Start, End}
use Rattle.regex_hir.specs.Meaning.{cat_all}
use Rattle.regex_hir.specs.Re.{Re, cat, empty, look, literal, char_in}
use Rattle.regex_syntax.proofs.SetLemmas.{in_ranges-members}
use Rattle.regex_syntax.proofs.TreeLaws.{◌then◌, cat_cong, alt_cong, same_refl, same_sym, same_of_eq, cat_all-push, alt-fail, char_in_cong, char_in_single}
use Rattle.regex_syntax.proofs.Written.{same_group, same_plus}
use Rattle.regex_syntax.specs.Brackets.{Nested}
use Rattle.regex_syntax.specs.Grammar.{read}
use Rattle.regex_syntax.specs.Grammar as grammar
use Rattle.regex_syntax.specs.Same.{SameTree}
use Rattle.regex_syntax.specs.Sets.{Set, case_fold, members, negate, one_of}
use Rattle.urlpattern_meaning.specs.Dialect.{Character, Plain, Escaped, character_of, character_text, Quantifier, Once, Optional, ZeroOrMore, OneOrMore, LazyOneOrMore, quantifier_text, Items, Nothing, Item, Atom, Literal, Dot, AnyBut, Captured, Grouped, items_text, atom_text, group_count, atom_group_count, AreItems}
use Rattle.urlpattern_syntax.specs.Text.{line_feed}
use Rattle.urlpattern_expressions.specs.Expressions.{config_for}
use Rattle.urlpattern_engine.proofs.TreeAttempts.{re_taken, re_items, re_atom}
use Rattle.urlpattern_engine.proofs.AtomsRead.{any_character, any_but, grammar_same, written}
use Rattle.urlpattern_engine.proofs.ItemsRead.{repeated_as, parts, part}
use Rattle.urlpattern_engine.proofs.TreeTextsRead.{whole, read_is, no_names}

-- ---- characters

pub scalars_parts : (xs ys : List ℕ) → scalars (xs ++ ys) ≡ true → (scalars xs ≡ true) × (scalars ys ≡ true)
scalars_parts [] ys h = (refl, h)
scalars_parts (x ∷ xs) ys h =
    let both = and_parts _ _ h in
    let later = scalars_parts xs ys both.1 in
    (and_from _ _ both.0 later.0, later.1)

character_scalar : (ch : Character) → scalars (character_text ch) ≡ true → IsScalar (character_of ch)
character_scalar (Plain c) h = (and_parts _ _ h).0
character_scalar (Escaped c) h = (and_parts _ _ h).0

pub scalars-append : (xs ys : List ℕ) → scalars xs ≡ true → scalars ys ≡ true → scalars (xs ++ ys) ≡ true
scalars-append [] ys p q = q
scalars-append (x ∷ xs) ys p q = and_from _ _ (and_parts _ _ p).0 (scalars-append xs ys (and_parts _ _ p).1 q)

same_literal : (c : ℕ) → IsScalar c → SameTree (literal (encode_utf8 c)) (char_in (members (λ d. d == c)))
same_literal c scalar = same_sym (char_in_single (members (λ d. d == c)) c scalar (λ d. in_ranges-members (λ e. e == c) d ∙ only d))
  where
    only : (d : ℕ) → (nat_lt d 0x11_0000 && (d == c)) ≡ (d == c)
    only d =
        ⊎_elim
        (λ (same : (d == c) ≡ true). rw same (and_from _ _ (lt-ltb d 0x11_0000 (omega (arith, InScalarRange-of_IsScalar c scalar, eqb-true d c same))) refl))
        (λ (other : (d == c) ≡ false). rw other (and_right _ _ refl))
        (cases_Bool (d == c))

same_set : (a b : Set) → ((c : ℕ) → c ≤ 0x10_FFFF → a c ≡ b c) → SameTree (char_in (members a)) (char_in (members b))
same_set a b h =
    char_in_cong (members a) (members b)
    (λ c le. in_ranges-members a c ∙ ap (λ x. nat_lt c 0x11_0000 && x) (h c le) ∙ sym (in_ranges-members b c))

same_dot : (ignore_case : Bool) → SameTree (any_character ignore_case).value (char_in (members (λ c. not (c == line_feed))))
unfolding one_of negate
same_dot ignore_case = same_set _ _ (λ c le. let fits : nat_le c 0x10_FFFF ≡ true = grind (arith, nat_tests) in rw fits refl)

same_written : (ignore_case : Bool) (c : ℕ) → IsScalar c → SameTree (written ignore_case c) (char_in (members (λ d. grammar_same ignore_case d c)))
unfolding case_fold one_of
same_written false c scalar = same_literal c scalar
same_written true c scalar = same_refl _

same_class : (ignore_case : Bool) (c : ℕ) → SameTree (any_but ignore_case c).value (char_in (members (λ d. not (grammar_same ignore_case d c))))
unfolding one_of negate
same_class ignore_case c =
    same_set _ _
    (λ d le.
    let fits : nat_le d 0x10_FFFF ≡ true = grind (arith, nat_tests) in
    rw fits (ap (λ (set : Set). not (case_fold (config_for ignore_case) set d)) (fun_ext (λ e. or-false (e == c)))))

-- ---- items and atoms

same_taken : (q : Quantifier) (sub : Nested Re) (a : Re) → SameTree sub.value a → SameTree (repeated_as q sub).value (re_taken q a)
same_taken Once sub a h = h
same_taken Optional sub a h = alt_cong (cat_cong h (same_refl empty)) (same_refl empty)
same_taken ZeroOrMore sub a h = alt_cong (same_plus true h) (same_refl empty)
same_taken OneOrMore sub a h = same_plus true h
same_taken LazyOneOrMore sub a h = same_plus false h

abbrev values : List (Nested Re) → List Re
values all = map (λ part. part.value) all

-- ---- groups

taken_count : (q : Quantifier) (a : Re) → grammar.group_count (re_taken q a) ≡ grammar.group_count a
taken_count Once a = refl
taken_count Optional a = omega arith
taken_count ZeroOrMore a = omega arith
taken_count OneOrMore a = refl
taken_count LazyOneOrMore a = refl

module _ (ignore_case : Bool) where
  mutual
    pub same_items : (tree : Items) → scalars (items_text tree) ≡ true → (g : ℕ) → SameTree (cat_all (values (parts ignore_case g tree))) (re_items (grammar_same ignore_case) g tree)
    same_items Nothing h g = same_refl empty
    same_items (Item a q tree) h g =
        let both = scalars_parts (atom_text a ++ quantifier_text q) (items_text tree) h in
        let front = scalars_parts (atom_text a) (quantifier_text q) both.0 in
        cat_cong (same_taken q (part ignore_case g a) (re_atom (grammar_same ignore_case) g a) (same_atom a front.0 g)) (same_items tree both.1 (g + atom_group_count a))

    pub same_atom : (a : Atom) → scalars (atom_text a) ≡ true → (g : ℕ) → SameTree (part ignore_case g a).value (re_atom (grammar_same ignore_case) g a)
    same_atom (Literal ch) h g = same_written ignore_case (character_of ch) (character_scalar ch h)
    same_atom Dot h g = same_dot ignore_case
    same_atom (AnyBut ch) h g = same_class ignore_case (character_of ch)
    same_atom (Captured tree) h g = same_group g (alt-fail _ then same_items tree (scalars_parts (items_text tree) (41 ∷ []) h).0 (suc g))
    same_atom (Grouped tree) h g = alt-fail _ then same_items tree (scalars_parts (items_text tree) (41 ∷ []) h).0 g

  abbrev pub re_of : Items → Re
  re_of tree = cat (look Start) (cat (re_items (grammar_same ignore_case) 1 tree) (look End))

  pub same_whole : (tree : Items) → scalars (items_text tree) ≡ true → SameTree (whole ignore_case tree).value (re_of tree)
  same_whole tree h =
      alt-fail _
      then cat_cong (same_refl _)
      (same_of_eq (ap cat_all (map_push (λ (part : Nested Re). part.value) (parts ignore_case 1 tree) _)) then cat_all-push _ _ then cat_cong (same_items tree h 1) (same_refl _))

  mutual
    items_count : (tree : Items) (g : ℕ) → max g (grammar.group_count (re_items (grammar_same ignore_case) g tree)) ≡ g + group_count tree
    items_count Nothing g = omega arith
    items_count (Item a q tree) g =
        omega (arith, taken_count q (re_atom (grammar_same ignore_case) g a), atom_count a g, items_count tree (g + atom_group_count a))

    atom_count : (a : Atom) (g : ℕ) → max g (grammar.group_count (re_atom (grammar_same ignore_case) g a)) ≡ g + atom_group_count a
    atom_count (Literal ch) g = omega arith
    atom_count Dot g = omega arith
    atom_count (AnyBut ch) g = omega arith
    atom_count (Captured tree) g = omega (arith, items_count tree (suc g))
    atom_count (Grouped tree) g = items_count tree g

  whole_count : (tree : Items) → scalars (items_text tree) ≡ true → max 1 (grammar.group_count (whole ignore_case tree).value) ≡ suc (group_count tree)
  whole_count tree h = omega (arith, (same_whole tree h).groups.count, items_count tree 1)

  -- ---- whole trees

  -- The text is read, in the form that the grammar builds, with groups without names.
  pub tree_is_read : (tree : Items) → AreItems tree → scalars (items_text tree) ≡ true → suc (group_count tree) ≤ 2 ^ 32
      → read (config_for ignore_case) (codes "^" ++ items_text tree ++ codes "$") ≡ Some (whole ignore_case tree, replicate (suc (group_count tree)) None)
  tree_is_read tree h good small =
      read_is ignore_case tree h small
      ∙ ap (λ names. Some (whole ignore_case tree, names)) (no_names (whole ignore_case tree).value (suc (group_count tree)) (max 1 (grammar.group_count (whole ignore_case tree).value)) ∙ ap (λ n. replicate n None) (whole_count tree good))
