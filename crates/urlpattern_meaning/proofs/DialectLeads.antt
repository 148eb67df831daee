-- The first character of a text of the dialect determines its first atom, or its quantifier.
use Rattle.std.proofs.Common.{◌≡◌, ℕ, Bool, true, false, cond, List, [], ◌∷◌, ◌++◌, refl, sym, ap, ◌∙◌, subst, inl, inr}
use Rattle.std.specs.Prelude.{codes, IsTrue, not, ◌==◌, slice_index}
use Rattle.std.specs.List.{list_all}
use Rattle.std.proofs.lemmas.Bool.{and_parts, or_cases, eqb-false, eqb-true, cond-false, false≢true, false_from_ne_true}
use Rattle.urlpattern_meaning.proofs.DialectSpelled.{spelled, atom_spelled}
use Rattle.urlpattern_meaning.specs.Dialect.{Items, Nothing, Item, Atom, Literal, Dot, AnyBut, Captured, Grouped, Character, Plain, Escaped, Quantifier, Once, Optional, ZeroOrMore, OneOrMore, LazyOneOrMore, character_text, quantifier_text, AreItems, IsAtom, IsCharacter}
use Rattle.urlpattern_syntax.specs.RegexpText.{regexp_marks}
use Rattle.urlpattern_syntax.specs.Text.{is_among}

-- ---- characters

-- A character among the marks passes a test that each of them passes.
pub passed : (test : ℕ → Bool) (marks : List ℕ) → IsTrue (list_all test marks) → (c : ℕ) → IsTrue (is_among marks c) → IsTrue (test c)
passed test [] h c is = absurd (false≢true is)
passed test (mark ∷ marks) h c is =
    let all = and_parts (test mark) (list_all test marks) h in
    elim (or_cases (mark == c) (is_among marks c) is) [
      | inl e ↦ subst (λ x. IsTrue (test x)) (eqb-true mark c e) all.0
      | inr e ↦ passed test marks all.1 c e
    ]

not_true : (b : Bool) → IsTrue (not b) → ¬ IsTrue b
not_true true h is = false≢true h
not_true false h is = false≢true is

-- The first character, or `$` for the empty text: both end the items.
abbrev pub first : List ℕ → ℕ
first [] = slice_index (codes "$") 0
first (c ∷ text) = c

-- The text begins with one of these characters.
abbrev pub Leads : List ℕ → List ℕ → Type 0
Leads marks text = IsTrue (is_among marks (first text))

-- The end of items: no more text, a closing bracket or `$`.
abbrev pub Ends : List ℕ → Type 0
Ends text = Leads (codes ")$") text

-- The text begins neither with a quantifier nor with the bracket that closes a class.
abbrev pub IsFree : List ℕ → Type 0
IsFree text = ¬ Leads (codes "]?*+") text

-- ---- the beginnings of atoms

-- The marks with which no atom begins.
abbrev closing : List ℕ
closing = codes ")$]?*+"

atom_opens : (atom : Atom) (rest : List ℕ) → IsAtom atom → ¬ Leads closing (atom_spelled atom rest)
atom_opens (Literal (Plain c)) rest h is = h (passed (is_among regexp_marks) closing refl c is)
atom_opens (Literal (Escaped c)) rest h is = false≢true is
atom_opens Dot rest h is = false≢true is
atom_opens (AnyBut character) rest h is = false≢true is
atom_opens (Captured items) rest h is = false≢true is
atom_opens (Grouped items) rest h is = false≢true is

-- No atom begins where items end.
pub ends_no_atom : (text rest : List ℕ) (atom : Atom) → Ends text → IsAtom atom → ¬ (text ≡ atom_spelled atom rest)
ends_no_atom text rest atom ends h e =
    atom_opens atom rest h (passed (is_among closing) (codes ")$") refl (first (atom_spelled atom rest)) (subst Ends e ends))

-- Items before their end begin with no quantifier.
pub spelled_free : (items : Items) (rest : List ℕ) → AreItems items → Ends rest → IsFree (spelled items rest)
spelled_free Nothing rest h ends is =
    not_true _ (passed (λ c. not (is_among (codes "]?*+") c)) (codes ")$") refl (first rest) ends) is
spelled_free (Item atom quantifier items) rest h ends is =
    let behind : List ℕ = quantifier_text quantifier ++ spelled items rest in
    atom_opens atom behind h.0 (passed (is_among closing) (codes "]?*+") refl (first (atom_spelled atom behind)) is)

-- The character that an atom begins with, or 0 for a literal.
abbrev pub kind : Atom → ℕ
kind (Literal character) = 0
kind Dot = slice_index (codes ".") 0
kind (AnyBut character) = slice_index (codes "[") 0
kind (Captured items) = slice_index (codes "(") 0
kind (Grouped items) = slice_index (codes "(") 0

-- The kind of an atom, read from the first character of its text.
kind_of : ℕ → ℕ
kind_of c = cond (is_among (codes ".[(") c) c 0

kind_read : (atom : Atom) (rest : List ℕ) → IsAtom atom → kind_of (first (atom_spelled atom rest)) ≡ kind atom
unfolding kind_of
kind_read (Literal (Plain c)) rest h =
    cond-false (is_among (codes ".[(") c) _ _
    (false_from_ne_true _ (λ is. h (passed (is_among regexp_marks) (codes ".[(") refl c is)))
kind_read (Literal (Escaped c)) rest h = refl
kind_read Dot rest h = refl
kind_read (AnyBut character) rest h = refl
kind_read (Captured items) rest h = refl
kind_read (Grouped items) rest h = refl

-- Atoms with one text have one kind.
pub kinds_one : (atom other : Atom) (rest left : List ℕ) → IsAtom atom → IsAtom other → atom_spelled atom rest ≡ atom_spelled other left → kind atom ≡ kind other
kinds_one atom other rest left h g e = sym (kind_read atom rest h) ∙ ap (λ x. kind_of (first x)) e ∙ kind_read other left g

-- ---- characters and quantifiers before a rest

pub character_one : (character other : Character) (rest left : List ℕ) → IsCharacter character → IsCharacter other →
    character_text character ++ rest ≡ character_text other ++ left → (character ≡ other) × (rest ≡ left)
character_one (Plain c) (Plain d) rest left h g e = (cc e, cc e)
character_one (Escaped c) (Escaped d) rest left h g e = (cc e, cc e)
character_one (Plain c) (Escaped d) rest left h g e = absurd (h (subst (Leads regexp_marks) (sym e) refl))
character_one (Escaped c) (Plain d) rest left h g e = absurd (g (subst (Leads regexp_marks) e refl))

-- The text does not begin with the bracket that closes a class.
abbrev pub IsUnclosed : List ℕ → Type 0
IsUnclosed text = ¬ Leads (codes "]") text

-- In a class a backslash is read in one way, whichever characters may have none: as itself where
-- `]` follows it and no other `]` does, and otherwise before a mark.
pub class_one : (character other : Character) (rest left : List ℕ) → IsUnclosed rest → IsUnclosed left →
    character_text character ++ codes "]" ++ rest ≡ character_text other ++ codes "]" ++ left → (character ≡ other) × (rest ≡ left)
class_one (Plain c) (Plain d) rest left h g e = (cc e, cc e)
class_one (Escaped c) (Escaped d) rest left h g e = (cc e, cc e)
class_one (Plain c) (Escaped d) rest left h g e = let f : rest ≡ codes "]" ++ left = cc e in absurd (h (subst (Leads (codes "]")) (sym f) refl))
class_one (Escaped c) (Plain d) rest left h g e = let f : left ≡ codes "]" ++ rest = cc e in absurd (g (subst (Leads (codes "]")) (sym f) refl))

pub unclosed : (quantifier : Quantifier) (rest : List ℕ) → IsFree rest → IsUnclosed (quantifier_text quantifier ++ rest)
unclosed Once rest h is = h (passed (is_among (codes "]?*+")) (codes "]") refl (first rest) is)
unclosed quantifier rest h is = false≢true is

-- A quantifier and the rest are read in one way.
pub quantifier_one : (quantifier other : Quantifier) (rest left : List ℕ) → IsFree rest → IsFree left →
    quantifier_text quantifier ++ rest ≡ quantifier_text other ++ left → (quantifier ≡ other) × (rest ≡ left)
quantifier_one Once Once rest left h g e = (refl, e)
quantifier_one Once other rest left h g e = absurd (h (subst (Leads (codes "]?*+")) (sym e) refl))
quantifier_one quantifier Once rest left h g e = absurd (g (subst (Leads (codes "]?*+")) e refl))
quantifier_one Optional Optional rest left h g e = (refl, cc e)
quantifier_one ZeroOrMore ZeroOrMore rest left h g e = (refl, cc e)
quantifier_one OneOrMore OneOrMore rest left h g e = (refl, cc e)
quantifier_one LazyOneOrMore LazyOneOrMore rest left h g e = (refl, cc e)
quantifier_one OneOrMore LazyOneOrMore rest left h g e =
    let f : rest ≡ codes "?" ++ left = cc e in absurd (h (subst (Leads (codes "]?*+")) (sym f) refl))
quantifier_one LazyOneOrMore OneOrMore rest left h g e =
    let f : left ≡ codes "?" ++ rest = cc e in absurd (g (subst (Leads (codes "]?*+")) (sym f) refl))
quantifier_one quantifier other rest left h g e =
    absurd (eqb-false (first (quantifier_text quantifier ++ rest)) (first (quantifier_text other ++ left)) refl (ap first e))
