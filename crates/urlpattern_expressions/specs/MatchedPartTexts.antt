-- The texts that parts match, custom parts included, whatever they capture.
use Rattle.std.specs.Prelude.{◌≡◌, All, ℕ, Bool, false, List, [], ◌∷◌, ◌++◌, IsTrue}
use Rattle.urlpattern_expressions.specs.Expressions.{ExpressionMatches, captures_nothing_by, is_self_contained_by}
use Rattle.urlpattern_meaning.specs.PartMeaning.{Allows, IsWildcardText}
use Rattle.urlpattern_syntax.specs.{Options.OptionsView, Parts.PartView}
use Rattle.urlpattern_syntax.specs.declared.parser.PartType.{PartType}
use Rattle.urlpattern_syntax.specs.Text.{IsRepeated}

-- The text is a single match of a group of this kind, without prefix and suffix: what the custom
-- expression `value` matches, or what the wildcard does.
abbrev pub IsMatchedPiece : OptionsView → PartType → (value text : List ℕ) → Type 0
IsMatchedPiece options PartType.Regexp value text = ExpressionMatches value text
IsMatchedPiece options kind value text = IsWildcardText options kind text

-- The text is a copy of a part of this kind: the fixed text, or a match of the group between prefix
-- and suffix.
abbrev pub IsMatchedCopy : OptionsView → PartType → PartView → List ℕ → Type 0
IsMatchedCopy options PartType.FixedText part text = text ≡ part.value
IsMatchedCopy options kind part text =
    (piece : List ℕ) × (text ≡ part.prefix ++ piece ++ part.suffix)
    × IsMatchedPiece options kind part.value piece

-- The text is as many copies of the part as its modifier allows.
abbrev pub PartMatches : OptionsView → PartView → List ℕ → Type 0
PartMatches options part text =
    (count : ℕ) × Allows part.modifier count
    × IsRepeated (IsMatchedCopy options part.kind part) count text

-- The text is split into one substring for each part, and each part matches its substring.
abbrev pub PartsMatch : OptionsView → List PartView → List ℕ → Type 0
PartsMatch options [] text = text ≡ []
PartsMatch options (part ∷ parts) text =
    (first rest : List ℕ) × (text ≡ first ++ rest)
    × PartMatches options part first
    × PartsMatch options parts rest

-- The expression of a custom part stands alone, where case is ignored or kept: it means the same
-- inside the regular expression of the parts as by itself. Parts of other kinds meet this.
abbrev pub IsSelfContainedBy : (ignore_case : Bool) → PartType → (value : List ℕ) → Type 0
IsSelfContainedBy ignore_case PartType.Regexp value =
    IsTrue (is_self_contained_by ignore_case value)
IsSelfContainedBy ignore_case kind value = Unit {0}

-- The expression of a custom part stands alone, where case is kept.
abbrev pub IsSelfContained : PartType → (value : List ℕ) → Type 0
IsSelfContained = IsSelfContainedBy false

-- The expressions of all custom parts stand alone, where case is ignored or kept.
abbrev pub AllStandAloneBy : (ignore_case : Bool) → List PartView → Type 0
AllStandAloneBy ignore_case parts =
    All (λ part. IsSelfContainedBy ignore_case part.kind part.value) parts

-- The expressions of all custom parts stand alone, where case is kept.
abbrev pub AllStandAlone : List PartView → Type 0
AllStandAlone = AllStandAloneBy false

-- The expression of a custom part, where case is ignored or kept, has no group that captures. Parts
-- of other kinds meet this.
abbrev pub CapturesNothingBy : (ignore_case : Bool) → PartType → (value : List ℕ) → Type 0
CapturesNothingBy ignore_case PartType.Regexp value = IsTrue (captures_nothing_by ignore_case value)
CapturesNothingBy ignore_case kind value = Unit {0}

-- The expression of a custom part, where case is kept, has no group that captures.
abbrev pub CapturesNothing : PartType → (value : List ℕ) → Type 0
CapturesNothing = CapturesNothingBy false

-- The expressions of all custom parts, where case is ignored or kept, have no group that captures.
abbrev pub AllCaptureNothingBy : (ignore_case : Bool) → List PartView → Type 0
AllCaptureNothingBy ignore_case parts =
    All (λ part. CapturesNothingBy ignore_case part.kind part.value) parts

-- The expressions of all custom parts have no group that captures, where case is kept.
abbrev pub AllCaptureNothing : List PartView → Type 0
AllCaptureNothing = AllCaptureNothingBy false
