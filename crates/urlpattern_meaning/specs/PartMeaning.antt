-- What parts mean: the texts that they match, with the captures of their groups. Custom regular
-- expressions have no meaning in these definitions.
use Rattle.std.specs.Prelude.{◌≡◌, ◌≢◌, ◌↔◌, All, ℕ, zero, suc, ◌≤◌, Bool, true, ◌&&◌, List, [], ◌∷◌, ◌++◌, Option, Some, None, IsTrue, unwrap_or}
use Rattle.urlpattern_syntax.specs.{Options.OptionsView, Parts.PartView, RegexpText.is_empty}
use Rattle.urlpattern_syntax.specs.declared.parser.{PartModifier.PartModifier, PartType.PartType}
use Rattle.urlpattern_syntax.specs.Text.{lacks, line_feed, IsRepeated}

-- The captures of groups, in order: a text, or None for a group that captures nothing.
abbrev pub Captures : Type 0
Captures = List (Option (List ℕ))

-- ---- copies of a part

-- A wildcard of this kind matches the text: for a segment, a text that is not empty and does not
-- contain the delimiter or, under options without a delimiter, a line feed; for a full wildcard,
-- any text without line feed.
abbrev pub IsWildcardText : OptionsView → PartType → List ℕ → Type 0
IsWildcardText options PartType.SegmentWildcard text =
    (text ≢ []) × IsTrue (lacks (unwrap_or options.delimiter line_feed) text)
IsWildcardText options PartType.FullWildcard text = IsTrue (lacks line_feed text)
-- A kind other than the two wildcards matches no text.
IsWildcardText options kind text = ⊥

-- The text is one copy of a part of this kind: the value of a fixed text, or a match of a wildcard
-- between prefix and suffix.
abbrev pub IsCopyOf : OptionsView → PartType → PartView → List ℕ → Type 0
IsCopyOf options PartType.FixedText part text = text ≡ part.value
IsCopyOf options kind part text =
    (piece : List ℕ) × (text ≡ part.prefix ++ piece ++ part.suffix)
    × IsWildcardText options kind piece

-- The text is `n` copies of the part, end to end.
abbrev pub AreCopies : OptionsView → PartView → ℕ → List ℕ → Type 0
AreCopies options part n text = IsRepeated (IsCopyOf options part.kind part) n text

-- ---- one part

-- A part with this modifier may have `n` copies.
abbrev pub Allows : PartModifier → ℕ → Type 0
Allows PartModifier.None n = n ≡ 1
Allows PartModifier.Optional n = n ≤ 1
Allows PartModifier.ZeroOrMore n = Unit {0}
Allows PartModifier.OneOrMore n = 1 ≤ n

-- The capture of a part that has no copies: the empty text for "zero or more" where `is_bare` says
-- that the part has neither prefix nor suffix, otherwise None.
abbrev pub capture_of_none : PartModifier → (is_bare : Bool) → Option (List ℕ)
capture_of_none PartModifier.ZeroOrMore true = Some []
capture_of_none modifier is_bare = None

-- The capture of the part where it has no copies, by its modifier, prefix and suffix.
abbrev pub capture_of_no_copies : PartView → Option (List ℕ)
capture_of_no_copies part =
    capture_of_none part.modifier (is_empty part.prefix && is_empty part.suffix)

-- A part with `n` copies, which together are the text, has this capture: the text without the first
-- prefix and the last suffix, or, for no copies, `capture_of_no_copies`.
abbrev pub IsCapture : PartView → ℕ → List ℕ → Option (List ℕ) → Type 0
IsCapture part zero text capture = capture ≡ capture_of_no_copies part
IsCapture part (suc n) text capture =
    (inner : List ℕ) × (text ≡ part.prefix ++ inner ++ part.suffix) × (capture ≡ Some inner)

-- A part of this kind with `n` copies, which together are the text, has these captures: none for a
-- fixed text, and a single one for a wildcard. A custom regular expression has no meaning.
abbrev pub AreCaptures : PartType → PartView → ℕ → List ℕ → Captures → Type 0
AreCaptures PartType.FixedText part n text captures = captures ≡ []
AreCaptures PartType.Regexp part n text captures = ⊥
AreCaptures kind part n text captures =
    (capture : Option (List ℕ)) × IsCapture part n text capture × (captures ≡ capture ∷ [])

-- The part matches the whole text, with these captures.
pub record PartMeans (options : OptionsView) (part : PartView) (text : List ℕ) (captures : Captures)
    : Type 0 where
  pub count : ℕ
  pub allowed : Allows part.modifier count
  pub are_copies : AreCopies options part count text
  pub are_captures : AreCaptures part.kind part count text captures

-- ---- a list of parts

-- The parts, one after the other, match the whole text, with these captures.
abbrev pub PartsMean : OptionsView → List PartView → List ℕ → Captures → Type 0
PartsMean options [] text captures = (text ≡ []) × (captures ≡ [])
PartsMean options (part ∷ parts) text captures =
    (first rest : List ℕ) × (own others : Captures)
    × (text ≡ first ++ rest)
    × (captures ≡ own ++ others)
    × PartMeans options part first own × PartsMean options parts rest others

-- Two lists of parts match the same texts, with the same captures.
abbrev pub MeanTheSame : OptionsView → (parts others : List PartView) → Type 0
MeanTheSame options parts others =
    (text : List ℕ) (captures : Captures) → PartsMean options parts text captures
    ↔ PartsMean options others text captures

-- None of the parts is a custom regular expression.
abbrev pub AreGenerated : List PartView → Type 0
AreGenerated parts = All (λ part. part.kind ≢ PartType.Regexp) parts
