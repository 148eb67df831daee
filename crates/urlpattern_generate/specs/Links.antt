-- The text of parts whose groups have given captures: the inverse of matching.
use Rattle.std.specs.Prelude.{◌≡◌, ◌⊎◌, ℕ, zero, suc, List, [], ◌∷◌, ◌++◌, Option, Some, None}
use Rattle.urlpattern_meaning.specs.PartMeaning.{Allows, Captures, IsWildcardText, capture_of_no_copies}
use Rattle.urlpattern_syntax.specs.declared.parser.{PartModifier.PartModifier, PartType.PartType}
use Rattle.urlpattern_syntax.specs.{Options.OptionsView, Parts.PartView}

-- ---- what a group may capture

-- A single copy of a group of this kind may capture the text. A custom regular expression is left
-- to its engine, so its group may capture any text.
abbrev pub IsCopyText : OptionsView → PartType → List ℕ → Type 0
IsCopyText options PartType.Regexp text = Unit {0}
IsCopyText options kind text = IsWildcardText options kind text

-- The text consists of a text for which `Is` holds and `n` more, joined by `between`.
abbrev pub AreTextsWith : (Is : List ℕ → Type 0) → (between : List ℕ) → ℕ → List ℕ → Type 0
AreTextsWith Is between zero text = Is text
AreTextsWith Is between (suc n) text =
    (first rest : List ℕ) × (text ≡ first ++ (between ++ rest))
    × Is first
    × AreTextsWith Is between n rest

-- The modifier of the part allows zero copies, and their capture is `capture`.
abbrev pub IsOfNoCopies : PartView → Option (List ℕ) → Type 0
IsOfNoCopies part capture = Allows part.modifier 0 × (capture ≡ capture_of_no_copies part)

-- Copies of the part, at least one and as many as its modifier allows, have this capture: texts for
-- which `Is` holds, joined by the suffix and the prefix of the part.
abbrev pub IsOfCopies : (Is : List ℕ → Type 0) → PartView → Option (List ℕ) → Type 0
IsOfCopies Is part None = ⊥
IsOfCopies Is part (Some text) =
    (n : ℕ) × Allows part.modifier (suc n) × AreTextsWith Is (part.suffix ++ part.prefix) n text

-- Copies of the group, at least one and as many as its modifier allows, may have this capture.
abbrev pub CopiesMayCapture : OptionsView → PartView → Option (List ℕ) → Type 0
CopiesMayCapture options part capture = IsOfCopies (IsCopyText options part.kind) part capture

-- The group, seen alone, may have this capture, by zero or more copies, as many as its modifier
-- allows. The group of a custom regular expression may capture any text.
abbrev pub MayCapture : OptionsView → PartView → Option (List ℕ) → Type 0
MayCapture options part capture =
    IsOfNoCopies part capture ⊎ IsOfCopies (IsCopyText options part.kind) part capture

-- ---- lists of captures: one for each group, in order

-- The captures that remain for the parts after one of this kind: a group has the first, a fixed
-- text none.
abbrev pub captures_after : PartType → Captures → Captures
captures_after PartType.FixedText captures = captures
captures_after kind [] = []
captures_after kind (capture ∷ captures) = captures

-- If a part of this kind is a group, `Is` holds of the part and the first capture.
abbrev pub OfFirst : (Is : PartView → Option (List ℕ) → Type 0) → PartType → PartView → Captures
    → Type 0
OfFirst Is PartType.FixedText part captures = Unit {0}
OfFirst Is kind part [] = ⊥
OfFirst Is kind part (capture ∷ captures) = Is part capture

-- `Is` holds of each group of the parts and its capture, and there are no other captures.
abbrev pub OfEachGroup : (Is : PartView → Option (List ℕ) → Type 0) → List PartView → Captures
    → Type 0
OfEachGroup Is [] captures = captures ≡ []
OfEachGroup Is (part ∷ parts) captures =
    OfFirst Is part.kind part captures × OfEachGroup Is parts (captures_after part.kind captures)

-- Each group of the parts may have its capture, as `MayCapture` says of a group alone, and there
-- are no other captures.
abbrev pub MayCaptureAll : OptionsView → List PartView → Captures → Type 0
MayCaptureAll options = OfEachGroup (MayCapture options)

-- ---- texts

-- The fewest copies of a fixed text that the modifier allows.
abbrev pub fewest_copies : PartModifier → List ℕ → List ℕ
fewest_copies PartModifier.None text = text
fewest_copies PartModifier.OneOrMore text = text
fewest_copies modifier text = []

-- The text of a group with this capture: empty if the capture is None.
abbrev pub text_of_group : PartView → Option (List ℕ) → List ℕ
text_of_group part None = []
text_of_group part (Some capture) = part.prefix ++ capture ++ part.suffix

-- The text of a part of this kind. A group has the first of the captures.
abbrev pub text_of_part : PartType → PartView → Captures → List ℕ
text_of_part PartType.FixedText part captures = fewest_copies part.modifier part.value
text_of_part kind part [] = []
text_of_part kind part (capture ∷ captures) = text_of_group part capture

-- The text of parts whose groups have these captures.
abbrev pub text_of_parts : List PartView → Captures → List ℕ
text_of_parts [] captures = []
text_of_parts (part ∷ parts) captures =
    text_of_part part.kind part captures ++ text_of_parts parts (captures_after part.kind captures)
