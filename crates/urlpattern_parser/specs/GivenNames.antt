-- The names that a pattern gives to its placeholders, as they are kept.
use Rattle.std.specs.Prelude.{ℕ, ◌||◌, Bool, List, bytes_eq}
use Rattle.std.specs.{Borrow.Bor, BTreeSet.contains_by, List.list_any, Ordering.nat_cmp}
use Rattle.std.specs.Cmp.Lexicographic.{slice_cmp}
use Rattle.urlpattern_parser.specs.declared.parser.given_names.GivenNames.{GivenNames}

-- Whether the bytes of the text are equal to `bytes`.
abbrev pub has_bytes : List ℕ → Bor (List ℕ) → Bool
has_bytes bytes text = bytes_eq text.now bytes

-- Whether the set contains the name with these bytes.
abbrev pub has_name : GivenNames → List ℕ → Bool
has_name names bytes =
    list_any (has_bytes bytes) names.few.items
    || contains_by (λ text. slice_cmp nat_cmp bytes text.now) names.others
