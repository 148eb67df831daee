-- Lemmas on the place of a field.
use Rattle.std.proofs.Common.{◌≡◌, ◌≤◌, ℕ, IfSome, List, None, Option, Some, [], arith, inl, inr, length, refl, subst, sym}
use Rattle.std.specs.Borrow.{Bor}
use Rattle.std.specs.Io.BufRead.{drop_through, take_through}
use Rattle.urlpat_matching.specs.Lines.{IsLineKept, longest}
use Rattle.urlpat_matching.specs.declared.command.{Field.Field, FieldName.FieldName, LineFormat.LineFormat}
use Rattle.urlpat_matching.specs.declared.command.FieldName.TheVariants as names
use Rattle.urlpat_matching.specs.declared.command.LineFormat.TheVariants as formats
use Rattle.urlpat_tables.specs.Fields.{IsColumnPlaced, IsFieldPlaced, IsMemberPlace, IsNamedPlace, IsNumberedPlace, IsPlaced}
use Rattle.urlpat_tables.specs.declared.fields.Place.{Place}
use Rattle.urlpat_tables.specs.declared.fields.Place.TheVariants as places

-- A header that is not too long is the first line.
header-kept : (header line : List ℕ) → IsLineKept header line → length header ≤ longest → header ≡ line
header-kept header line (inl same) short = same
header-kept header line (inr long) short = absurd (omega (arith, short, long.0))

-- The place in a text, after which `left` is left, is known if the text is.
abbrev pub IsPlacedIn : (known left : Option (List ℕ)) → (Is : (text rest : List ℕ) → Type 0) → Type 0
IsPlacedIn known left Is = IfSome known (λ text. (rest : List ℕ) × (left ≡ Some rest) × Is text rest)

-- Nothing of the text is read.
unread : (known : Option (List ℕ)) (Is : (text rest : List ℕ) → Type 0) → ((text : List ℕ) → Is text text) → IsPlacedIn known known Is
unread None Is is = tt
unread (Some text) Is is = (text, refl, is text)

-- Lines that are URLs.
pub whole-placed : (asked : Option Field) (known : Option (List ℕ)) (header : List ℕ) → asked ≡ None → header ≡ []
    → IsPlacedIn known known (λ text rest. IsPlaced asked text places.Whole header rest)
whole-placed None known header is none = unread known (λ text rest. IsPlaced None text places.Whole header rest) (λ text. (refl, none, refl))
whole-placed (Some field) known header is none = absurd cc

-- The place of a field is that of the lines.
pub field-placed : (asked : Option Field) (field : Field) (known left : Option (List ℕ)) (header : List ℕ) (found : Option Place) → asked ≡ Some field
    → IfSome found (λ place. IsPlacedIn known left (λ text rest. IsFieldPlaced field.format field.name text place header rest))
    → IfSome found (λ place. IsPlacedIn known left (λ text rest. IsPlaced asked text place header rest))
field-placed asked field known left header found is placed =
    subst (λ (it : Option Field). IfSome found (λ place. IsPlacedIn known left (λ text rest. IsPlaced it text place header rest))) (sym is) placed

-- The place of a member.
pub member-placed : (format : LineFormat) (name : FieldName) (known : Option (List ℕ)) (header : List ℕ) (found : Option Place) → format ≡ formats.Json → header ≡ []
    → IfSome found (IsMemberPlace name) → IfSome found (λ place. IsPlacedIn known known (λ text rest. IsFieldPlaced format name text place header rest))
member-placed formats.Json name known header None is none placed = tt
member-placed formats.Json name known header (Some place) is none placed =
    unread known (λ text rest. IsFieldPlaced formats.Json name text place header rest) (λ text. (placed, none, refl))
member-placed formats.Csv name known header found is none placed = absurd cc
member-placed formats.Tsv name known header found is none placed = absurd cc

-- The place of a field that is asked for by its number.
pub numbered-placed : (delimiter number : ℕ) (name : FieldName) (known : Option (List ℕ)) (header : List ℕ) (found : Option Place) → name ≡ names.Number number → header ≡ []
    → IfSome found (IsNumberedPlace delimiter number) → IfSome found (λ place. IsPlacedIn known known (λ text rest. IsColumnPlaced delimiter name text place header rest))
numbered-placed delimiter number name known header None is none placed = tt
numbered-placed delimiter number name known header (Some place) is none placed =
    subst (λ (it : FieldName). IsPlacedIn known known (λ text rest. IsColumnPlaced delimiter it text place header rest)) (sym is)
    (unread known (λ text rest. IsColumnPlaced delimiter (names.Number number) text place header rest) (λ text. (placed, none, refl)))

-- The place of the field that the first line has the name of.
pub named-placed : (delimiter : ℕ) (word : Bor (List ℕ)) (name : FieldName) (known left : Option (List ℕ)) (header : List ℕ) (found : Option Place) → name ≡ names.Name word
    → IfSome known (λ bytes. IsLineKept header (take_through 10 bytes)) → IfSome known (λ bytes. left ≡ Some (drop_through 10 bytes))
    → IfSome found (λ place. length header ≤ longest) → IfSome found (IsNamedPlace delimiter word.now header)
    → IfSome found (λ place. IsPlacedIn known left (λ text rest. IsColumnPlaced delimiter name text place header rest))
named-placed delimiter word name known left header None is kept goes short placed = tt
named-placed delimiter word name None left header (Some place) is kept goes short placed = tt
named-placed delimiter word name (Some text) left header (Some place) is kept goes short placed = (
  drop_through 10 text,
  goes,
  subst (λ (it : FieldName). IsColumnPlaced delimiter it text place header (drop_through 10 text)) (sym is) (header-kept header (take_through 10 text) kept short, refl, placed),
)
