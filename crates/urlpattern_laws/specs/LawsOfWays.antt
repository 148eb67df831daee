-- Statements of the laws on the captures that are returned for parts with custom expressions: the
-- captures of the first way in which the parts match the whole text.
use Rattle.std.specs.Prelude.{◌≡◌, ◌⊎◌, ⊤, ℕ, Bool, true, false, List, IsAscii, IsTrue, option_map}
use Rattle.std.specs.Str.{all_scalars}
use Rattle.urlpattern_matcher.specs.Components.{ComponentView, FlagsAgree, IsComponentOf}
use Rattle.urlpattern_matcher.specs.FirstWays.{Keeping, Acceptance}
use Rattle.urlpattern_printing.specs.Generated.{AreGenerated}
use Rattle.urlpattern_matcher.specs.declared.regexp.RegExp.{Ghosts as Engine}
use Rattle.urlpattern_laws.specs.LawsOfTexts.{HasMatcherPremises}
use Rattle.urlpattern_expressions.specs.MatchedPartTexts.{AllCaptureNothing, AllCaptureNothingBy, AllStandAlone, AllStandAloneBy}
use Rattle.urlpattern_expressions.specs.{PartCaptures.IsCapturedByParts, PartWays.parts_first_way, PartWays.parts_first_way_by, SimpleExpressions.AreOfAscii}
use Rattle.urlpattern_meaning.specs.Dialect.{IsTreeOf, Items}
use Rattle.urlpattern_meaning.specs.FirstResults.{AcceptedText}
use Rattle.urlpattern_meaning.specs.Matching.{EachResultIs, IsSame, MatcherView, folded_captures}
use Rattle.urlpattern_meaning.specs.Ways.{first_way_by}
use Rattle.urlpattern_syntax.specs.{Options.OptionsView, Parts.PartView, RegexpText.regexp_text}

-- For parts without a custom one, the captures of their first way are those of the first way of the
-- tree of their regular expression, with case ignored or kept.
abbrev pub FirstWaysAreOfTrees : Type 0
FirstWaysAreOfTrees =
    (ignore_case : Bool) (options : OptionsView) (parts : List PartView) (tree : Items)
    (text : List ℕ) → AreGenerated parts
    → IsTreeOf (regexp_text options parts) tree →
    parts_first_way_by ignore_case options parts text ≡ first_way_by ignore_case tree text

-- Where case is ignored and no part is custom, texts that are equal except for case have first ways
-- whose captures are equal except for case, or no way.
abbrev pub FirstWaysAreOfEitherCase : Type 0
FirstWaysAreOfEitherCase =
    (options : OptionsView) (parts : List PartView) (text other : List ℕ) → AreGenerated parts
    → IsSame true text other
    →
    option_map folded_captures (parts_first_way_by true options parts text)
    ≡ option_map folded_captures (parts_first_way_by true options parts other)

-- The captures of the first way are captures that the parts have in the text, or `None` if the
-- parts do not match it. Premises: custom expressions stand alone and capture nothing themselves.
abbrev pub FirstWaysAreCaptured : Type 0
FirstWaysAreCaptured =
    (options : OptionsView) (parts : List PartView) (text : List ℕ) → AllStandAlone parts
    → AllCaptureNothing parts →
    IsTrue (all_scalars (regexp_text options parts)) → IsTrue (all_scalars text) →
    IsCapturedByParts options parts text (parts_first_way options parts text)

-- A value that the engine made of the regular expression of parts returns the captures of their
-- first way. Premises: `Keeps` holds of the flags, and custom expressions stand alone and capture
-- nothing themselves.
abbrev pub ValuesReturnFirstOfParts : {E : Type 0} → Engine E → Keeping → Type 0
ValuesReturnFirstOfParts {E} engine Keeps =
    (options : OptionsView) (flags : List ℕ) (parts : List PartView) (value : E) → Keeps flags →
    AllStandAlone parts → AllCaptureNothing parts →
    engine.IsMade value (regexp_text options parts) flags →
    (text : List ℕ) → IsTrue (all_scalars text)
    → engine.answer value text ≡ parts_first_way options parts text

-- Case is kept, or the text, the delimiter and all texts of the parts are ASCII.
abbrev pub IsKeptOrAscii : (ignore_case : Bool) → OptionsView → List PartView → (text : List ℕ)
    → Type 0
IsKeptOrAscii ignore_case options parts text =
    (ignore_case ≡ false) ⊎ (AreOfAscii options parts × IsAscii text)

-- A value that the engine made of the regular expression of parts returns the captures of their
-- first way, with case ignored or kept as the options and the flags say. Premises: as the grammar
-- reads them with or without the flag `i`, custom expressions stand alone and capture nothing
-- themselves; and if case is ignored, the text, the delimiter and all texts of the parts are ASCII.
abbrev pub ValuesReturnFirstByFlags : {E : Type 0} → Engine E → Type 0
ValuesReturnFirstByFlags {E} engine =
    (options : OptionsView) (flags : List ℕ) (parts : List PartView) (value : E)
    → FlagsAgree options flags
    → AllStandAloneBy options.ignore_case parts → AllCaptureNothingBy options.ignore_case parts
    →
    engine.IsMade value (regexp_text options parts) flags
    →
    (text : List ℕ) → IsTrue (all_scalars text)
    → IsKeptOrAscii options.ignore_case options parts text
    → engine.answer value text ≡ parts_first_way_by options.ignore_case options parts text

-- A matcher made of parts returns the captures of their first way for each text without line feeds.
-- Premises: `HasMatcherPremises`, and custom expressions capture nothing themselves.
abbrev pub MatchersReturnFirstOfParts : {E : Type 0} → Engine E → Acceptance E → Type 0
MatchersReturnFirstOfParts {E} engine Accepted =
    (options : OptionsView) (flags : List ℕ) (parts : List PartView) (matcher : MatcherView E) →
    HasMatcherPremises engine Accepted options flags parts matcher → AllCaptureNothing parts →
    EachResultIs engine.answer matcher (λ text result. result ≡ parts_first_way options parts text)

-- The matcher of a component made of parts returns the captures of their first way for each text
-- without line feeds. Premises: custom expressions stand alone and capture nothing themselves,
-- case is kept, and the engine, where one is needed, accepted its expression.
abbrev pub ComponentsReturnFirstOfParts : {E : Type 0} → Engine E → Type 0
ComponentsReturnFirstOfParts {E} engine =
    (options : OptionsView) (parts : List PartView) (component : ComponentView E)
    → IsComponentOf engine options parts component
    →
    AllStandAlone parts → AllCaptureNothing parts →
    options.ignore_case ≡ false → AcceptedText (λ value. ⊤) component.matcher.inner →
    EachResultIs engine.answer component.matcher (λ text result.
    result ≡ parts_first_way options parts text)
