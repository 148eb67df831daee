-- The text of a tree before a rest, without brackets of appending.
use Rattle.std.proofs.Common.{◌≡◌, ℕ, List, ◌++◌, refl, ap, ◌∙◌, append_assoc}
use Rattle.std.specs.Prelude.{codes}
use Rattle.urlpattern_meaning.specs.Dialect.{Items, Nothing, Item, Atom, Literal, Dot, AnyBut, Captured, Grouped, character_text, quantifier_text, items_text, atom_text}

abbrev mutual
  -- The text of the items, and then the rest.
  pub spelled : Items → List ℕ → List ℕ
  spelled Nothing rest = rest
  spelled (Item atom quantifier items) rest = atom_spelled atom (quantifier_text quantifier ++ spelled items rest)

  pub atom_spelled : Atom → List ℕ → List ℕ
  atom_spelled (Literal character) rest = character_text character ++ rest
  atom_spelled Dot rest = codes "." ++ rest
  atom_spelled (AnyBut character) rest = codes "[^" ++ character_text character ++ codes "]" ++ rest
  atom_spelled (Captured items) rest = codes "(" ++ spelled items (codes ")" ++ rest)
  atom_spelled (Grouped items) rest = codes "(?:" ++ spelled items (codes ")" ++ rest)

mutual
  pub items-spelled : (items : Items) (rest : List ℕ) → items_text items ++ rest ≡ spelled items rest
  items-spelled Nothing rest = refl
  items-spelled (Item atom quantifier items) rest =
      append_assoc (atom_text atom ++ quantifier_text quantifier) (items_text items) rest
      ∙ append_assoc (atom_text atom) (quantifier_text quantifier) (items_text items ++ rest)
      ∙ atom-spelled atom (quantifier_text quantifier ++ (items_text items ++ rest))
      ∙ ap (λ x. atom_spelled atom (quantifier_text quantifier ++ x)) (items-spelled items rest)

  pub atom-spelled : (atom : Atom) (rest : List ℕ) → atom_text atom ++ rest ≡ atom_spelled atom rest
  atom-spelled (Literal character) rest = refl
  atom-spelled Dot rest = refl
  atom-spelled (AnyBut character) rest = refl
  atom-spelled (Captured items) rest =
      ap (λ x. codes "(" ++ x) (append_assoc (items_text items) (codes ")") rest ∙ items-spelled items (codes ")" ++ rest))
  atom-spelled (Grouped items) rest =
      ap (λ x. codes "(?:" ++ x) (append_assoc (items_text items) (codes ")") rest ∙ items-spelled items (codes ")" ++ rest))
