-- What a pattern finds, by its pattern texts, where case is kept in some components and ignored in
-- others.
use Rattle.std.specs.Prelude.{◌≡◌, ◌↔◌, ◌⊎◌, ℕ, false, List, IsAscii, Ok, Option, Some, None}
use Rattle.url.specs.Parts.{IsValid, Parts}
use Rattle.urlpattern_compile.specs.Compiled.{AreCompiled, IsComponentCompiled, ParseSettings, settings_of}
use Rattle.urlpattern_components.specs.declared.eight.ComponentName.{ComponentName}
use Rattle.urlpattern_components.specs.Eight.{Texts, Values, at}
use Rattle.urlpattern_expressions.specs.{PartCaptures.IsCapturedByParts, PartWays.parts_first_way_by, SimpleExpressions.HaveMeaningByCase}
use Rattle.urlpattern_init.specs.{Inheritance.texts_of_url, UrlTexts.IsLine}
use Rattle.urlpattern_init.specs.declared.init.{UrlPatternInit.UrlPatternInit, UrlPatternMatchInput.UrlPatternMatchInput}
use Rattle.urlpattern_inputs.specs.declared.options.UrlPatternOptions.{UrlPatternOptions}
use Rattle.urlpattern_matcher.specs.Components.{ComponentView}
use Rattle.urlpattern_matcher.specs.declared.regexp.RegExp.{Ghosts as Engine}
use Rattle.urlpattern_matches.specs.MatchInput.{input_texts}
use Rattle.urlpattern_matches.specs.ResultViews.{IsResultOf, ResultView}
use Rattle.urlpattern_meaning.specs.{Matching.InnerView, Matching.Literal, Matching.RegExp, Matching.Returns, Matching.SingleCapture, PartMeaning.Captures}
use Rattle.urlpattern_pattern.specs.ByText.{ReadsNoCustom}
use Rattle.urlpattern_pattern.specs.ByTextLaws.{IsSameFinding}
use Rattle.urlpattern_pattern.specs.Match.{FindsInTexts, IsLongInput}
use Rattle.urlpattern_pattern.specs.MatchMeaning.{IsExecuted, ReadsAs}
use Rattle.urlpattern_pattern.specs.{KeptMeanings.HasMeaningByCaseIn, KeptParts.KeepsPartsOf, Patterns.PatternView, UrlPatterns.UrlPattern}
use Rattle.urlpattern_syntax.specs.{Parts.PartView, RegexpText.group_names}

-- ---- components

-- `captures` are those of the first way, with case ignored or kept as the options say, in which the
-- parts of the pattern text match the whole of `text`; `None` if there is no way. Where case is
-- kept, the parts have these captures in `text`.
pub record IsFirstWayByCase (settings : ParseSettings) (text : List ℕ) (captures : Option Captures)
    : Type 0 where
  pub parts : List PartView
  pub reads : ReadsAs settings parts
  pub is_first : captures
      ≡ parts_first_way_by settings.options.ignore_case settings.options parts text
  pub is_captured : settings.options.ignore_case ≡ false
      → IsCapturedByParts settings.options parts text captures

-- The component of `settings` has a meaning, with case ignored or kept: each list of parts that its
-- pattern text is parsed to has one.
abbrev pub IsMeantByCase : ParseSettings → Type 0
IsMeantByCase settings =
    (parts : List PartView) → ReadsAs settings parts → HaveMeaningByCase settings.options parts

-- The text is a line and, if case is ignored and the pattern text has a custom part, ASCII.
abbrev pub IsLineByCase : ParseSettings → (text : List ℕ) → Type 0
IsLineByCase settings text =
    IsLine text
    × ((settings.options.ignore_case ≡ false) ⊎ (ReadsNoCustom settings ⊎ IsAscii text))

-- Each of the eight texts of a valid URL is such a line, whatever the pattern texts are.
abbrev pub TextsOfUrlsAreLinesByCase : Type 0
TextsOfUrlsAreLinesByCase =
    (settings : ComponentName → ParseSettings) (url : Parts) → IsValid url
    → (component : ComponentName)
    → IsLineByCase (settings component) (at (texts_of_url url) component)

-- A component that has a meaning, with case ignored or kept, returns for each line (`IsLineByCase`)
-- the captures of the first way.
abbrev pub FirstsAreReturnedByCase : {E : Type 0} → Engine E → Type 0
FirstsAreReturnedByCase {E} engine =
    (settings : ParseSettings) (compiled : ComponentView E) (text : List ℕ)
    (result : Option Captures)
    →
    IsComponentCompiled engine settings compiled
    → IsMeantByCase settings
    → IsLineByCase settings text
    →
    Returns engine.answer compiled.matcher text result → IsFirstWayByCase settings text result

-- The matcher between prefix and suffix is not an engine.
abbrev pub HoldsNoEngine : {E : Type 0} → InnerView E → Type 0
HoldsNoEngine (Literal literal) = Unit {0}
HoldsNoEngine (SingleCapture filter allow_empty) = Unit {0}
HoldsNoEngine (RegExp engine) = ⊥

-- A component whose matcher needs no engine returns for each line the captures of the first way.
abbrev pub FirstsAreReturnedWithoutEngine : {E : Type 0} → Engine E → Type 0
FirstsAreReturnedWithoutEngine {E} engine =
    (settings : ParseSettings) (compiled : ComponentView E) (text : List ℕ)
    (result : Option Captures)
    →
    IsComponentCompiled engine settings compiled
    → HoldsNoEngine compiled.matcher.inner
    → IsLine text
    →
    Returns engine.answer compiled.matcher text result → IsFirstWayByCase settings text result

-- ---- patterns

-- `result` is the result of the first way, with case ignored or kept, for the component of
-- `settings` and its text `text`: its groups have the names of the parts, and the captures of the
-- first way.
pub record IsFirstResultByCase (settings : ParseSettings) (text : List ℕ) (result : ResultView) :
    Type 0 where
  pub captures : Captures
  pub way : IsFirstWayByCase settings text (Some captures)
  pub is_result : IsResultOf (group_names way.parts) captures text result

-- The result of matching `texts` follows from the pattern texts of `settings`. In a match, each
-- component that has a meaning and whose text is a line (`IsLineByCase`) has the result of the
-- first way. Without a match, if all components are of this kind, one of them has no way for its
-- text.
abbrev pub IsFoundByCase : (settings : ComponentName → ParseSettings) → Texts
    → Option (ComponentName → ResultView) → Type 0
IsFoundByCase settings texts (Some result) =
    (component : ComponentName) → IsMeantByCase (settings component)
    → IsLineByCase (settings component) (at texts component)
    →
    IsFirstResultByCase (settings component) (at texts component) (result component)
IsFoundByCase settings texts None =
    ((component : ComponentName)
    → IsMeantByCase (settings component)
    × IsLineByCase (settings component) (at texts component))
    →
    (component : ComponentName)
    × IsFirstWayByCase (settings component) (at texts component) None

-- What a compiled pattern finds in eight texts follows from its pattern texts.
abbrev pub FindingsAreByCase : {E : Type 0} → Engine E → Type 0
FindingsAreByCase {E} engine =
    (asked : UrlPatternOptions) (values : Values) (pattern : PatternView E) (texts : Texts)
    (found : Option (ComponentName → ResultView))
    → (compiled : AreCompiled engine asked values pattern)
    → FindsInTexts (λ result. result) engine.answer pattern texts found
    →
    IsFoundByCase (settings_of asked values compiled.hierarchical) texts found

-- What `exec` of a compiled pattern returns for an input follows from its pattern texts, if the
-- input has texts, none of them too long for `url`.
abbrev pub InputFindingsAreByCase : {E : Type 0} → Engine E → Type 0
InputFindingsAreByCase {E} engine =
    (asked : UrlPatternOptions) (values : Values) (pattern : PatternView E)
    (input : UrlPatternMatchInput) (found : Option (ComponentName → ResultView)) (texts : Texts)
    → (compiled : AreCompiled engine asked values pattern)
    →
    input_texts input ≡ Ok texts → ¬ IsLongInput input
    → IsExecuted engine.answer pattern input found
    →
    IsFoundByCase (settings_of asked values compiled.hierarchical) texts found

-- Two results for `texts` that follow from the pattern texts are equal, if each component has a
-- meaning and each text is a line (`IsLineByCase`).
abbrev pub FindingsByCaseAreOne : Type 0
FindingsByCaseAreOne =
    (settings : ComponentName → ParseSettings) (texts : Texts)
    (found other : Option (ComponentName → ResultView))
    → ((component : ComponentName)
    → IsMeantByCase (settings component)
    × IsLineByCase (settings component) (at texts component))
    →
    IsFoundByCase settings texts found
    → IsFoundByCase settings texts other
    → IsSameFinding found other

-- ---- kept parts

-- The parts that a compiled pattern keeps for a component have a meaning over an engine that
-- honours the flag `i` exactly if the pattern text of the component has one, with case ignored or
-- kept.
abbrev pub KeptMeaningsByCaseAreOfTexts : {E : Type 0} → Engine E → Type 0
KeptMeaningsByCaseAreOfTexts {E} engine =
    (init : UrlPatternInit) (asked : UrlPatternOptions) (pattern : UrlPattern E)
    (kept : KeepsPartsOf engine init asked pattern)
    (name : ComponentName)
    → HasMeaningByCaseIn pattern name
    ↔ IsMeantByCase (settings_of asked kept.values kept.hierarchical name)
