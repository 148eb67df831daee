-- The characters that tests name.
use Rattle.std.proofs.Common.{◌≡◌, ◌≢◌, ℕ, zero, suc, ◌+◌, ◌<◌, ◌≤◌, Bool, true, false, List, [], ◌∷◌, arith, eq-eqb, inl, inr, refl}
use Rattle.std.proofs.lemmas.Bool.{cases_lt, or_left, or_right}
use Rattle.std.proofs.lemmas.List.Elements.{All-contains, All-weaker}
use Rattle.std.specs.Char.{to_ascii_uppercase}
use Rattle.std.specs.List.{Contains}
use Rattle.std.specs.Prelude.{◌==◌}
use Rattle.urlpattern_compare.proofs.CharacterClasses.{among_contains, lower_cases, unlike}
use Rattle.urlpattern_compare.specs.Exits.{AreKeptIn, HasCases, HasNames, capitals}
use Rattle.urlpattern_compare.specs.declared.parts_automaton.Test.{Test}
use Rattle.urlpattern_compare.specs.declared.parts_automaton.Test.TheVariants.{Only, AnyBut, Within}
use Rattle.urlpattern_meaning.proofs.FoldedTrees.{moved_or_same}
use Rattle.urlpattern_meaning.specs.Matching.{folded_character}
use Rattle.urlpattern_syntax.specs.Text.{is_among}

-- More marks have the cases too.
cases_within : (ignore_case : Bool) (marks more : List ℕ) (c : ℕ) → AreKeptIn marks more → HasCases ignore_case marks c → HasCases ignore_case more c
cases_within true marks more c within (one, other) = (within c one, within (to_ascii_uppercase c) other)
cases_within false marks more c within has = within c has

pub names_within : (ignore_case : Bool) (marks more : List ℕ) (test : Test) → AreKeptIn marks more → HasNames ignore_case marks test → HasNames ignore_case more test
names_within ignore_case marks more (Only c) within has = cases_within ignore_case marks more c within has
names_within ignore_case marks more (AnyBut c) within has = cases_within ignore_case marks more c within has
names_within true marks more (Within first last) within has = All-weaker (Contains marks) (Contains more) within capitals has
names_within false marks more (Within first last) within has = tt

-- A character that is none of the marks is, in lower case, none that they have the cases of.
pub not_named : (ignore_case : Bool) (marks : List ℕ) (c d : ℕ) → is_among marks c ≡ false → HasCases ignore_case marks d → folded_character ignore_case c ≢ d
not_named true marks c d free (one, other) e = elim (lower_cases c d e) [
  | inl same ↦ unlike marks c d free one same
  | inr upper ↦ unlike marks c (to_ascii_uppercase d) free other upper
]
not_named false marks c d free has e = unlike marks c d free has e

-- Codes in a row, from the first on.
abbrev rising : (from count : ℕ) → List ℕ
rising from zero = []
rising from (suc count) = from ∷ rising (suc from) count

rising_has : (from count c : ℕ) → from ≤ c → c < from + count → is_among (rising from count) c ≡ true
rising_has from zero c low high = absurd (omega arith)
rising_has from (suc count) c low high = elim (cases_lt from c) [
  | inl more ↦ or_right (from == c) (is_among (rising (suc from) count) c) (rising_has (suc from) count c (omega arith) (omega arith))
  | inr under ↦ or_left (from == c) (is_among (rising (suc from) count) c) (eq-eqb from c (omega arith))
]

capital : (c : ℕ) → 65 ≤ c → c ≤ 90 → is_among capitals c ≡ true
capital c low high = rising_has 65 26 c low (omega arith)

-- A character that is not among marks with all capital letters has no other case.
pub same_case : (ignore_case : Bool) (marks : List ℕ) (c first last : ℕ) → is_among marks c ≡ false → HasNames ignore_case marks (Within first last) → folded_character ignore_case c ≡ c
same_case true marks c first last free has = elim (moved_or_same c) [
  | inl (at_least, at_most, moved) ↦ absurd (unlike marks c c free (All-contains (Contains marks) capitals c has (among_contains capitals c (capital c at_least at_most))) refl)
  | inr same ↦ same
]
same_case false marks c first last free has = refl
