-- Statements of the laws of whole patterns. `answer` is what a value of an engine returns for a
-- text.
use Rattle.std.specs.Prelude.{◌≡◌, ◌↔◌, ℕ, Bool, List, Ok, Option}
use Rattle.regex.specs.declared.string.regex.Regex.{Regex}
use Rattle.urlpattern_matcher.specs.declared.regexp.RegExp.{Ghosts as Engine}
use Rattle.urlpattern_matcher.specs.Regexes.{regex_engine}
use Rattle.urlpattern_init.specs.declared.init.UrlPatternMatchInput.{UrlPatternMatchInput}
use Rattle.urlpattern_meaning.specs.PartMeaning.{Captures}
use Rattle.urlpattern_inputs.specs.declared.options.UrlPatternOptions.{UrlPatternOptions}
use Rattle.urlpattern_components.specs.declared.eight.ComponentName.{ComponentName}
use Rattle.urlpattern_components.specs.Eight.{Texts, Values, at}
use Rattle.urlpattern_compile.specs.Compiled.{AreCompiled, ParseSettings, settings_of}
use Rattle.urlpattern_pattern.specs.Match.{HasMatch, HasNoMatch, IsLongInput, IsMatch, TestsInput}
use Rattle.urlpattern_matches.specs.ResultViews.{IsSameResult, ResultView}
use Rattle.urlpattern_matches.specs.MatchInput.{input_texts}
use Rattle.urlpattern_pattern.specs.ByText.{IsFirstResult}
use Rattle.urlpattern_pattern.specs.ByTextLaws.{IsSameFinding}
use Rattle.urlpattern_pattern.specs.Patterns.{PatternView}
use Rattle.urlpattern_pattern.specs.MatchMeaning.{IsExecuted, IsFoundByMeaning, MeaningPremises, RegexPremises}

-- What a compiled pattern finds in an input is what its pattern texts mean (`IsFoundByMeaning`),
-- unless a text of the input is longer than `url` is certain to accept.
abbrev pub ResultsMeanTheParts : {E : Type 0} → Engine E → Type 0
ResultsMeanTheParts {E} engine =
    (asked : UrlPatternOptions) (values : Values) (pattern : PatternView E)
    (input : UrlPatternMatchInput) (texts : Texts)
    (found : Option (ComponentName → ResultView))
    → (compiled : AreCompiled engine asked values pattern)
    →
    input_texts input ≡ Ok texts
    → ¬ IsLongInput input
    → IsExecuted engine.answer pattern input found
    →
    IsFoundByMeaning engine.answer (settings_of asked values compiled.hierarchical) pattern texts
    found

-- A test of an input is true (`HasMatch`) exactly if there is a match.
abbrev pub TestsAgree : {E : Type 0} → (answer : E → List ℕ → Option Captures) → Type 0
TestsAgree {E} answer = (pattern : PatternView E) (input : UrlPatternMatchInput) →
    HasMatch answer pattern input
    ↔ ((result : ComponentName → ResultView) × IsMatch answer pattern input result)

-- Any two matches of an input have the same results.
abbrev pub MatchesAreOne : {E : Type 0} → (answer : E → List ℕ → Option Captures) → Type 0
MatchesAreOne {E} answer =
    (pattern : PatternView E) (input : UrlPatternMatchInput)
    (result other : ComponentName → ResultView)
    →
    IsMatch answer pattern input result → IsMatch answer pattern input other →
    (component : ComponentName) → IsSameResult (result component) (other component)

-- Any two results of `exec` for inputs with equal texts are equal, such as an init and the URL with
-- its texts. Premise: no text of an input is longer than `url` is certain to accept.
abbrev pub EqualTextsHaveEqualResults : {E : Type 0} → (answer : E → List ℕ → Option Captures)
    → Type 0
EqualTextsHaveEqualResults {E} answer =
    (pattern : PatternView E) (input other : UrlPatternMatchInput) (texts : Texts)
    (found also : Option (ComponentName → ResultView))
    → input_texts input ≡ Ok texts
    → input_texts other ≡ Ok texts
    →
    ¬ IsLongInput input → ¬ IsLongInput other → IsExecuted answer pattern input found
    → IsExecuted answer pattern other also
    → IsSameFinding found also

-- Any two tests of inputs with equal texts are equal. Premise: no text of an input is longer than
-- `url` is certain to accept.
abbrev pub EqualTextsHaveEqualTests : {E : Type 0} → (answer : E → List ℕ → Option Captures)
    → Type 0
EqualTextsHaveEqualTests {E} answer =
    (pattern : PatternView E) (input other : UrlPatternMatchInput) (texts : Texts)
    (matched also : Bool)
    → input_texts input ≡ Ok texts
    → input_texts other ≡ Ok texts
    →
    ¬ IsLongInput input → ¬ IsLongInput other → TestsInput answer pattern input matched
    → TestsInput answer pattern other also
    → matched ≡ also

-- With a match a test is not false (`HasNoMatch`), unless a text of the input is longer than `url`
-- is certain to accept.
abbrev pub TestsAreOne : {E : Type 0} → (answer : E → List ℕ → Option Captures) → Type 0
TestsAreOne {E} answer = (pattern : PatternView E) (input : UrlPatternMatchInput) →
    HasMatch answer pattern input → HasNoMatch answer pattern input → IsLongInput input

-- A component that `regex::Regex` compiled meets the premises of `IsFoundByMeaning`, if it meets
-- those on all but the engine, and the engine accepted its regular expression.
abbrev pub RegexMeetsPremises : Type 0
RegexMeetsPremises =
    (asked : UrlPatternOptions) (values : Values) (pattern : PatternView Regex)
    (component : ComponentName) (text : List ℕ)
    →
    (compiled : AreCompiled regex_engine asked values pattern)
    → let settings = settings_of asked values compiled.hierarchical component in
    RegexPremises settings (pattern component) text
    → MeaningPremises regex_engine.answer settings (pattern component) text

-- In a match by a pattern that `regex::Regex` compiled, a component that meets `RegexPremises` has
-- the result of the first way: the names of its parts, with the captures of the first way in which
-- the parts match the whole text.
abbrev pub RegexResultsAreFirst : Type 0
RegexResultsAreFirst =
    (asked : UrlPatternOptions) (values : Values) (pattern : PatternView Regex)
    (input : UrlPatternMatchInput) (texts : Texts)
    (result : ComponentName → ResultView) (component : ComponentName) →
    (compiled : AreCompiled regex_engine asked values pattern)
    → let settings = settings_of asked values compiled.hierarchical component in
    input_texts input ≡ Ok texts → IsMatch regex_engine.answer pattern input result →
    RegexPremises settings (pattern component) (at texts component)
    → IsFirstResult settings (at texts component) (result component)

-- Any two results of the first way of a pattern text, for the same text, are equal.
abbrev pub FirstResultsAreOne : Type 0
FirstResultsAreOne = (settings : ParseSettings) (text : List ℕ) (result other : ResultView) →
    IsFirstResult settings text result
    → IsFirstResult settings text other
    → IsSameResult result other
