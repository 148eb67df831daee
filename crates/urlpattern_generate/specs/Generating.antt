-- The text of a component in which its matcher finds the requested captures, and why there is none.
use Rattle.std.specs.Prelude.{◌≡◌, ◌≢◌, ◌⊎◌, ◌≤◌, ◌||◌, ℕ, Bool, true, not, List, length, IsTrue, MatchBool, Option, Some, None, Ok}
use Rattle.std.specs.{Char.is_ascii_alphabetic, Str.IsUtf8, Str.chars}
use Rattle.url.specs.Parser.{Parsed}
use Rattle.urlpattern_canonical.specs.Canonical.{long_text}
use Rattle.urlpattern_components.specs.declared.eight.ComponentName.{ComponentName}
use Rattle.urlpattern_generate.specs.Requested.{AreRequested}
use Rattle.urlpattern_generate.specs.WriteSettings.{WriteSettings}
use Rattle.urlpattern_generate.specs.WrittenTexts.{CannotWrite, IsWritten}
use Rattle.urlpattern_generate.specs.declared.generate_error.GenerateError.{GenerateError}
use Rattle.urlpattern_generate.specs.declared.generate_error.GenerateError.TheVariants.{ReadOtherwise}
use Rattle.urlpattern_meaning.specs.Matching.{Returns, InnerView, Literal, MatcherView, RegExp, SingleCapture}
use Rattle.urlpattern_meaning.specs.PartMeaning.{Captures}
use Rattle.urlpattern_syntax.specs.Parts.{PartView}

-- ---- what a matcher finds

-- The matcher finds in the text the requested captures of the parts' groups: the canonical form of
-- a group's value, or for a group without a value its `default_capture`.
abbrev pub FindsRequested : {E : Type 0} → (answer : E → List ℕ → Option Captures) → MatcherView E
    → WriteSettings → List PartView → (text : List ℕ) → Type 0
FindsRequested answer matcher settings parts text =
    (captures : Captures) × AreRequested settings parts captures
    × Returns answer matcher text (Some captures)

-- The matcher finds in the text other captures than those requested of the parts' groups, or does
-- not match the text.
abbrev pub FindsOther : {E : Type 0} → (answer : E → List ℕ → Option Captures) → MatcherView E
    → WriteSettings → List PartView → (text : List ℕ) → Type 0
FindsOther answer matcher settings parts text =
    (found : Option Captures) × Returns answer matcher text found
    × ((captures : Captures) → AreRequested settings parts captures → found ≢ Some captures)

-- `is` is whether the matcher finds in the text the captures requested of the parts' groups.
abbrev pub DecidesFound : {E : Type 0} → Bool
    → (answer : E → List ℕ → Option Captures) → MatcherView E → WriteSettings → List PartView
    → (text : List ℕ) → Type 0
DecidesFound is answer matcher settings parts text =
    MatchBool is (FindsRequested answer matcher settings parts text)
    (FindsOther answer matcher settings parts text)

-- Whether the filter of a matcher, a character that its capture may not have, is not an ASCII
-- letter. True without a filter.
abbrev pub has_one_case : (filter : Option ℕ) → Bool
has_one_case None = true
has_one_case (Some c) = not (is_ascii_alphabetic c)

-- A matcher with this content always finds the captures with which a text was written from its
-- parts: it has no engine and, if case is ignored, no filter that is an ASCII letter.
abbrev pub ReadsWritten : {E : Type 0} → (ignore_case : Bool) → InnerView E → Type 0
ReadsWritten ignore_case (Literal literal) = Unit {0}
ReadsWritten ignore_case (SingleCapture filter allow_empty) =
    IsTrue (not ignore_case || has_one_case filter)
ReadsWritten ignore_case (RegExp engine) = ⊥

-- ---- canonical texts

-- The text is its own form by `canonical`.
abbrev pub IsCanonical : (List ℕ → Parsed (List ℕ)) → (text : List ℕ) → Type 0
IsCanonical canonical text = canonical text ≡ Ok text

-- The text of these bytes is not its own form by `canonical`, or is too long to tell.
abbrev pub IsNotCanonical : (List ℕ → Parsed (List ℕ)) → (bytes : List ℕ) → Type 0
IsNotCanonical canonical bytes =
    (¬ IsCanonical canonical (chars bytes)) ⊎ (long_text ≤ length bytes)

-- `is` is whether the text of these bytes is its own form by `canonical`. A text that is too long
-- may count as not canonical.
abbrev pub DecidesCanonical : Bool → (List ℕ → Parsed (List ℕ)) → (bytes : List ℕ) → Type 0
DecidesCanonical is canonical bytes =
    MatchBool is (IsCanonical canonical (chars bytes)) (IsNotCanonical canonical bytes)

-- ---- the text of a component

-- The text is written from the parts with the requested captures, the matcher finds these captures
-- in it, and the text is canonical, as that of a URL is.
pub record HasText {E : Type 0} (answer : E → List ℕ → Option Captures) (matcher : MatcherView E)
    (settings : WriteSettings) (parts : List PartView) (text : List ℕ) : Type 0 where
  pub is_written : IsWritten settings parts text
  pub is_found : FindsRequested answer matcher settings parts text
  pub is_canonical : IsCanonical settings.canonical text

-- The parts can be written with the requested captures, but the matcher finds other captures in
-- their text or does not match the text, or the text is not canonical.
abbrev pub IsTextReadOtherwise : {E : Type 0} → (answer : E → List ℕ → Option Captures)
    → MatcherView E → WriteSettings → List PartView → Type 0
IsTextReadOtherwise answer matcher settings parts =
    (bytes : List ℕ) × IsUtf8 bytes
    × IsWritten settings parts (chars bytes)
    × (FindsOther answer matcher settings parts (chars bytes)
    ⊎ IsNotCanonical settings.canonical bytes)

-- The error says why the component has no canonical text that is written from the parts and in
-- which the matcher finds the requested captures.
abbrev pub LacksText : {E : Type 0} → (answer : E → List ℕ → Option Captures) → MatcherView E
    → ComponentName → WriteSettings → List PartView → GenerateError → Type 0
LacksText answer matcher component settings parts (ReadOtherwise of) =
    (of ≡ component) × IsTextReadOtherwise answer matcher settings parts
LacksText answer matcher component settings parts error = CannotWrite component settings parts error
