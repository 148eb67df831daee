-- How deep the text of a tree is nested for the crate `regex`, and why it may be rejected.
use Rattle.std.proofs.Common.{◌≡◌, ℕ, suc, ◌+◌, ◌^◌, ◌≤◌, ◌<◌, ◌⊎◌, max, List, [], ◌∷◌, ◌++◌, length, replicate, Some, None, refl, sym, ap, ◌∙◌, arith, codes, chars, nat_lt, if◌then◌else◌, true, false, inl, inr, ⊎_elim}
use Rattle.std.proofs.lemmas.Bool.{cond_both}
use Rattle.std.proofs.lemmas.Option.{none-some}
use Rattle.std.proofs.lemmas.Str.{chars-encodes}
use lib.Utf8.{scalars, encodes}
use Rattle.regex_syntax.proofs.BracketLemmas.{deepest_push}
use Rattle.regex_syntax.specs.Brackets.{Nested, deepest}
use Rattle.regex_syntax.specs.declared.error.ErrorKind.{ErrorKind}
use Rattle.regex_syntax.specs.declared.error.ErrorKind.TheVariants.{OutOfMemory}
use Rattle.regex_syntax.specs.Grammar.{read}
use Rattle.regex_syntax.specs.Verdict.{default_config, Refuses}
use Rattle.urlpattern_meaning.specs.Dialect.{Quantifier, Once, Optional, ZeroOrMore, OneOrMore, LazyOneOrMore, Items, Nothing, Item, Atom, Literal, Dot, AnyBut, Captured, Grouped, items_text, group_count, atom_group_count, AreItems}
use Rattle.urlpattern_engine.proofs.ItemsRead.{repeated_as, parts, part}
use Rattle.urlpattern_engine.proofs.TreeTextsRead.{whole, first_line, last_line}
use Rattle.urlpattern_engine.proofs.TreesRead.{scalars-append, tree_is_read}
use Rattle.urlpattern_engine.proofs.GroupsRejected.{within}

abbrev pub quantifier_depth : Quantifier → ℕ
quantifier_depth Once = 0
quantifier_depth Optional = 1
quantifier_depth ZeroOrMore = 1
quantifier_depth OneOrMore = 1
quantifier_depth LazyOneOrMore = 1

abbrev mutual
  pub items_depth : Items → ℕ
  items_depth Nothing = 0
  items_depth (Item a q tree) = max (atom_depth a + quantifier_depth q) (items_depth tree)

  pub atom_depth : Atom → ℕ
  atom_depth (Literal character) = 0
  atom_depth Dot = 0
  atom_depth (AnyBut character) = 1
  atom_depth (Captured tree) = items_depth tree + 2
  atom_depth (Grouped tree) = items_depth tree + 2

repeated_depth : (q : Quantifier) (sub : Nested _) → (repeated_as q sub).depth ≡ sub.depth + quantifier_depth q
repeated_depth Once sub = omega arith
repeated_depth Optional sub = refl
repeated_depth ZeroOrMore sub = refl
repeated_depth OneOrMore sub = refl
repeated_depth LazyOneOrMore sub = refl

one_at_most : {A : Type 0} (all : List A) → (if nat_lt 1 (length all) then 1 else 0) ≤ 1
one_at_most all = cond_both (nat_lt 1 (length all)) 1 0 (λ n. n ≤ 1) (λ _. omega arith) (λ _. omega arith)

mutual
  parts_depth : (tree : Items) (g : ℕ) → deepest (parts false g tree) ≤ items_depth tree
  parts_depth Nothing g = omega arith
  parts_depth (Item a q tree) g =
      omega (arith, repeated_depth q (part false g a), part_depth a g, parts_depth tree (g + atom_group_count a))

  part_depth : (a : Atom) (g : ℕ) → (part false g a).depth ≤ atom_depth a
  part_depth (Literal ch) g = omega arith
  part_depth Dot g = omega arith
  part_depth (AnyBut ch) g = omega arith
  part_depth (Captured tree) g = omega (arith, one_at_most (parts false (suc g) tree), parts_depth tree (suc g))
  part_depth (Grouped tree) g = omega (arith, one_at_most (parts false g tree), parts_depth tree g)

pub whole_depth : (tree : Items) → (whole false tree).depth ≤ items_depth tree + 1
whole_depth tree = omega (arith, deepest_push (parts false 1 tree) last_line, one_at_most ((first_line ∷ parts false 1 tree) ++ last_line ∷ []), parts_depth tree 1)

-- The text of a tree is rejected only if memory ran out, it has too many groups, or it is nested
-- too deep.
pub refused_tree : (tree : Items) → AreItems tree → scalars (items_text tree) ≡ true → (kind : ErrorKind)
    → Refuses default_config (encodes (codes "^" ++ items_text tree ++ codes "$")) kind
    → (kind ≡ OutOfMemory) ⊎ ((2 ^ 32 < suc (group_count tree)) ⊎ (250 ≤ items_depth tree))
unfolding Refuses
refused_tree tree h good kind r =
    let source = codes "^" ++ items_text tree ++ codes "$" in
    ⊎_elim
    (λ (few : suc (group_count tree) ≤ 2 ^ 32).
    let e : read default_config (chars (encodes source)) ≡ Some (whole false tree, replicate (suc (group_count tree)) None) =
    ap (read default_config) (chars-encodes source (scalars-append (items_text tree) (codes "$") good refl)) ∙ tree_is_read false tree h good few in
    elim r [
      | inl memory ↦ inl memory
      | inr (inl none) ↦ absurd (none-some _ (sym none ∙ e))
      | inr (inr deep) ↦ let over : 250 < (whole false tree).depth = rw e at deep.1 in inr (inr (omega (arith, whole_depth tree)))
    ])
    (λ (large : 2 ^ 32 < suc (group_count tree)). inr (inl large))
    (within (suc (group_count tree)) (2 ^ 32))
