-- The laws on patterns that return what their pattern texts say, in the sense of
-- `ReturnsByItsText`.
use Rattle.std.specs.Prelude.{◌≡◌, ℕ, false, List, Ok, Option, None, Some}
use Rattle.urlpattern_matcher.specs.Components.{ComponentView}
use Rattle.urlpattern_matcher.specs.declared.regexp.RegExp.{Ghosts as Engine}
use Rattle.urlpattern_init.specs.UrlTexts.{IsLine}
use Rattle.urlpattern_init.specs.declared.init.{UrlPatternInit.UrlPatternInit, UrlPatternMatchInput.UrlPatternMatchInput}
use Rattle.urlpattern_inputs.specs.declared.options.UrlPatternOptions.{UrlPatternOptions}
use Rattle.urlpattern_meaning.specs.{Matching.InnerView, PartMeaning.Captures}
use Rattle.urlpattern_components.specs.declared.eight.ComponentName.{ComponentName}
use Rattle.urlpattern_components.specs.Eight.{Texts, Values, at}
use Rattle.urlpattern_syntax.specs.Parts.{PartView}
use Rattle.urlpattern_pattern.specs.ByText.{ReturnsByItsText, EnginesReturnFirst, HasMeaning, IsFoundByText}
use Rattle.urlpattern_compile.specs.Compiled.{AreCompiled, IsComponentCompiled, ParseSettings, settings_of, pattern_values}
use Rattle.urlpattern_pattern.specs.Match.{FindsInTexts, IsLongInput}
use Rattle.urlpattern_matches.specs.ResultViews.{IsSameResult, ResultView}
use Rattle.urlpattern_matches.specs.MatchInput.{input_texts}
use Rattle.urlpattern_pattern.specs.MatchMeaning.{IsExecuted, ReadsAs}
use Rattle.urlpattern_pattern.specs.Patterns.{PatternView}

-- ---- patterns that return what their texts say

-- A compiled pattern returns what its pattern texts say, if the engine's values that it calls
-- return first ways.
abbrev pub PatternsReturnByText : {E : Type 0} → Engine E → Type 0
PatternsReturnByText {E} engine =
    (init : UrlPatternInit) (asked : UrlPatternOptions) (values : Values) (pattern : PatternView E)
    →
    pattern_values init ≡ Ok values → (compiled : AreCompiled engine asked values pattern) →
    EnginesReturnFirst engine.answer (settings_of asked values compiled.hierarchical) pattern
    → ReturnsByItsText engine.answer init asked pattern

-- A compiled pattern returns what its pattern texts say, if `Accepted`, a premise on what the
-- engine accepted, holds of the inner matcher of each component that has a meaning.
abbrev pub AcceptedPatternsReturnByText : {E : Type 0} → Engine E
    → (Accepted : InnerView E → Type 0) → Type 0
AcceptedPatternsReturnByText {E} engine Accepted =
    (init : UrlPatternInit) (asked : UrlPatternOptions) (values : Values) (pattern : PatternView E)
    →
    pattern_values init ≡ Ok values → (compiled : AreCompiled engine asked values pattern)
    → ((component : ComponentName)
    → HasMeaning (settings_of asked values compiled.hierarchical component)
    → Accepted (pattern component).matcher.inner)
    →
    ReturnsByItsText engine.answer init asked pattern

-- What a pattern finds in eight texts follows from its pattern texts, if the pattern returns what
-- these say.
abbrev pub FindingsAreByText : {E : Type 0} → (answer : E → List ℕ → Option Captures) → Type 0
FindingsAreByText {E} answer =
    (init : UrlPatternInit) (asked : UrlPatternOptions) (pattern : PatternView E)
    (by : ReturnsByItsText answer init asked pattern)
    (texts : Texts) (found : Option (ComponentName → ResultView))
    → FindsInTexts (λ result. result) answer pattern texts found
    →
    IsFoundByText (settings_of asked by.values by.hierarchical) texts found

-- What `exec` returns for an input follows from the pattern texts, if the pattern returns what
-- these say, and the input has texts, none of them too long for `url`.
abbrev pub InputFindingsAreByText : {E : Type 0} → (answer : E → List ℕ → Option Captures) → Type 0
InputFindingsAreByText {E} answer =
    (init : UrlPatternInit) (asked : UrlPatternOptions) (pattern : PatternView E)
    (by : ReturnsByItsText answer init asked pattern)
    (input : UrlPatternMatchInput) (found : Option (ComponentName → ResultView)) (texts : Texts) →
    input_texts input ≡ Ok texts → ¬ IsLongInput input → IsExecuted answer pattern input found →
    IsFoundByText (settings_of asked by.values by.hierarchical) texts found

-- Each component has a meaning, and each of `texts` is a line: characters without line feed.
abbrev pub AllHaveMeaning : (settings : ComponentName → ParseSettings) → Texts → Type 0
AllHaveMeaning settings texts =
    (component : ComponentName) → HasMeaning (settings component) × IsLine (at texts component)

-- `found` and `other` are both None, or results with equal texts and captures for each component.
abbrev pub IsSameFinding : (found other : Option (ComponentName → ResultView)) → Type 0
IsSameFinding None None = Unit {0}
IsSameFinding (Some result) (Some other) =
    (component : ComponentName) → IsSameResult (result component) (other component)
IsSameFinding found other = ⊥

-- Two results for `texts` that follow from the pattern texts are equal, if each component has a
-- meaning and each text is a line.
abbrev pub FindingsAreOne : Type 0
FindingsAreOne =
    (settings : ComponentName → ParseSettings) (texts : Texts)
    (found other : Option (ComponentName → ResultView))
    → AllHaveMeaning settings texts
    →
    IsFoundByText settings texts found
    → IsFoundByText settings texts other
    → IsSameFinding found other

-- Two patterns, also of different engines, find equal results in eight texts, if both return what
-- the pattern texts of `init` say, each component has a meaning and each text is a line.
abbrev pub PatternsReturnAlike : {E F : Type 0} → (answer : E → List ℕ → Option Captures)
    → (other : F → List ℕ → Option Captures) → Type 0
PatternsReturnAlike {E} {F} answer other =
    (init : UrlPatternInit) (asked : UrlPatternOptions) (pattern : PatternView E)
    (another : PatternView F)
    (by : ReturnsByItsText answer init asked pattern) → ReturnsByItsText other init asked another →
    (texts : Texts) (found also : Option (ComponentName → ResultView))
    → AllHaveMeaning (settings_of asked by.values by.hierarchical) texts
    →
    FindsInTexts (λ result. result) answer pattern texts found
    → FindsInTexts (λ result. result) other another texts also
    → IsSameFinding found also

-- ---- parts

-- Two lists of parts that one pattern text is parsed to are equal.
abbrev pub ReadingsAsAreOne : Type 0
ReadingsAsAreOne =
    (settings : ParseSettings) (parts others : List PartView) → ReadsAs settings parts
    → ReadsAs settings others
    → parts ≡ others

-- A component without a custom regular expression, and with its case kept, was compiled from a
-- pattern text that has a meaning.
abbrev pub CompiledHaveMeaning : {E : Type 0} → Engine E → Type 0
CompiledHaveMeaning {E} engine =
    (settings : ParseSettings) (compiled : ComponentView E)
    → IsComponentCompiled engine settings compiled
    →
    compiled.has_regexp_group ≡ false → settings.options.ignore_case ≡ false → HasMeaning settings
