-- What patterns return, derived from their pattern texts. A *way* is one way in which a regular
-- expression matches a text; the first way is the one that a backtracking engine finds first.
use Rattle.std.specs.Prelude.{◌≡◌, ◌↔◌, ◌⊎◌, ⊤, ℕ, Any, Bool, false, List, [], Option, None, Some, Ok, IsTrue, codes, unwrap_or}
use Rattle.urlpattern_canonical.specs.Canonical.{special_schemes}
use Rattle.urlpattern_expressions.specs.{PartsFirst.IsFirstOfParts, PartsFirst.ReturnsFirstOfMiddle, PartsFirst.ReturnsFirstOfParts, SimpleExpressions.AreSimple, SimpleExpressions.HaveMeaning}
use Rattle.urlpattern_matcher.specs.{Components.ComponentView, Components.FlagsAgree, Components.IsEngineOf, FirstWays.Acceptance}
use Rattle.urlpattern_printing.specs.{Generated.AreGenerated}
use Rattle.urlpattern_matcher.specs.declared.regexp.RegExp.{Ghosts as Engine}
use Rattle.urlpattern_init.specs.UrlTexts.{IsLine}
use Rattle.urlpattern_init.specs.declared.init.{UrlPatternInit.UrlPatternInit, UrlPatternMatchInput.UrlPatternMatchInput}
use Rattle.urlpattern_inputs.specs.declared.options.UrlPatternOptions.{UrlPatternOptions}
use Rattle.urlpattern_meaning.specs.{FirstResults.AcceptedText, Matching.IsMadeOf, Matching.MatcherView, PartMeaning.Captures}
use Rattle.urlpattern_components.specs.declared.eight.ComponentName.{ComponentName}
use Rattle.urlpattern_components.specs.declared.eight.ComponentName.TheVariants.{Protocol}
use Rattle.urlpattern_components.specs.Eight.{Texts, Values, at}
use Rattle.urlpattern_syntax.specs.{Options.OptionsView, Parts.PartView, RegexpText.group_names, Text.begins_with}
use Rattle.urlpattern_compile.specs.FromString.{IsInitOfText}
use Rattle.urlpattern_compile.specs.Compiled.{AreCompiled, IsPathKind, ParseSettings, is_mark, settings_of, pattern_values}
use Rattle.urlpattern_pattern.specs.Match.{IsLongInput}
use Rattle.urlpattern_matches.specs.ResultViews.{IsResultOf, ResultView}
use Rattle.urlpattern_matches.specs.MatchInput.{input_texts}
use Rattle.urlpattern_pattern.specs.Patterns.{PatternView}
use Rattle.urlpattern_pattern.specs.MatchMeaning.{IsExecuted, IsFoundByMeaning, ReadsAs}

-- The pattern text of `settings` has no custom regular expression: each list of parts that it is
-- parsed to is without one.
abbrev pub ReadsNoCustom : ParseSettings → Type 0
ReadsNoCustom settings = (parts : List PartView) → ReadsAs settings parts → AreGenerated parts

-- The component of `settings` has a meaning: each custom regular expression of its pattern text is
-- simple (`is_simple`), and case is kept. Its parts then say which texts match, with which
-- captures.
pub record HasMeaning (settings : ParseSettings) : Type 0 where
  pub simple : (parts : List PartView) → ReadsAs settings parts → AreSimple parts
  pub case_kept : settings.options.ignore_case ≡ false

-- ---- first ways

-- `captures` are the captures of the first way in which the parts of the pattern text of `settings`
-- match the whole of `text`, or None if no way exists. The parts have these captures in `text`;
-- None: the parts do not match `text`.
pub record IsFirstWay (settings : ParseSettings) (text : List ℕ) (captures : Option Captures) : Type
    0 where
  pub parts : List PartView
  pub reads : ReadsAs settings parts
  pub is_first : IsFirstOfParts settings.options parts text captures

-- `result` is the result of the first way for the component of `settings` and its text `text`: its
-- groups have the names of the parts, and the captures of the first way.
pub record IsFirstResult (settings : ParseSettings) (text : List ℕ) (result : ResultView) : Type 0
  where
    pub captures : Captures
    pub way : IsFirstWay settings text (Some captures)
    pub is_result : IsResultOf (group_names way.parts) captures text result

-- ---- matches

-- The result of matching `texts` follows from the pattern texts of `settings`. In a match, each
-- component that has a meaning, and whose text is a line, has the result of the first way. Without
-- a match, if all components are of this kind, one of them has no way for its text.
abbrev pub IsFoundByText : (settings : ComponentName → ParseSettings) → Texts
    → Option (ComponentName → ResultView) → Type 0
IsFoundByText settings texts (Some result) =
    (component : ComponentName) → HasMeaning (settings component) → IsLine (at texts component) →
    IsFirstResult (settings component) (at texts component) (result component)
IsFoundByText settings texts None =
    ((component : ComponentName) → HasMeaning (settings component) × IsLine (at texts component)) →
    (component : ComponentName) × IsFirstWay (settings component) (at texts component) None

-- ---- patterns

-- `compiled` returns what the pattern text of `settings` says: its groups have the names of the
-- parts that the text is parsed to, and for each text of characters without line feed its matcher
-- returns the captures of the first way of these parts.
pub record ReturnsByText {E : Type 0} (answer : E → List ℕ → Option Captures)
    (settings : ParseSettings) (compiled : ComponentView E) : Type 0 where
  pub parts : List PartView
  pub reads : ReadsAs settings parts
  pub has_names : compiled.group_name_list ≡ group_names parts
  pub answers : ReturnsFirstOfParts answer settings.options parts compiled.matcher

-- By the pattern texts `values`, the pathname is hierarchical: the protocol is empty, its pattern
-- text matches a special scheme, or the pathname begins with a slash.
abbrev pub IsHierarchicalByText : UrlPatternOptions → Values → Type 0
IsHierarchicalByText asked values =
    (values.protocol ≡ Some [])
    ⊎ Any (λ scheme.
    (captures : Captures)
    × IsFirstWay (settings_of asked values false Protocol) scheme.0 (Some captures))
    special_schemes
    ⊎ IsTrue (begins_with (is_mark (codes "/")) (unwrap_or values.pathname []))

-- `pattern`, compiled from `init` with the options `asked`, returns what its pattern texts say:
-- each component that has a meaning does. `hierarchical` is whether the pathname is hierarchical:
-- the protocol's matcher decides, and its pattern text decides alike if it has a meaning.
pub record ReturnsByItsText {E : Type 0} (answer : E → List ℕ → Option Captures)
    (init : UrlPatternInit) (asked : UrlPatternOptions) (pattern : PatternView E) : Type 0 where
  pub values : Values
  pub hierarchical : Bool
  pub are_values : pattern_values init ≡ Ok values
  pub by_protocol : IsPathKind answer values (pattern Protocol).matcher hierarchical
  pub path_kind : HasMeaning (settings_of asked values false Protocol) → IsTrue hierarchical
      ↔ IsHierarchicalByText asked values
  pub answers : (component : ComponentName)
      → HasMeaning (settings_of asked values hierarchical component)
      →
      ReturnsByText answer (settings_of asked values hierarchical component) (pattern component)

-- In each component that has a meaning, a matcher that needs an engine has the engine's value,
-- which returns the first way of the parts between prefix and suffix.
abbrev pub EnginesReturnFirst : {E : Type 0} → (answer : E → List ℕ → Option Captures)
    → (settings : ComponentName → ParseSettings) → PatternView E → Type 0
EnginesReturnFirst answer settings pattern =
    (component : ComponentName) (parts : List PartView) → HasMeaning (settings component)
    → ReadsAs (settings component) parts →
    ReturnsFirstOfMiddle answer (settings component).options parts (pattern component).matcher.inner

-- Each matcher that `engine` made of parts, of which custom expressions are simple, with case kept,
-- returns first ways, if the engine accepted, in the sense of `Accepted`, what the matcher needs.
abbrev pub EachReturnsFirstOfParts : {E : Type 0} → Engine E → (Accepted : Acceptance E) → Type 0
EachReturnsFirstOfParts {E} engine Accepted =
    (options : OptionsView) (flags : List ℕ) (parts : List PartView) (matcher : MatcherView E) →
    IsMadeOf (IsEngineOf engine false flags) options parts matcher → HaveMeaning options parts →
    Accepted options flags matcher.inner → ReturnsFirstOfParts engine.answer options parts matcher

-- The flags ignore case if and only if the options do, and the engine, where one is needed,
-- accepted its regular expression.
abbrev pub AcceptedAlone : {E : Type 0} → Acceptance E
AcceptedAlone options flags inner = FlagsAgree options flags × AcceptedText (λ value. ⊤) inner

-- Each matcher that `engine` made of parts, of which custom expressions are simple, with case kept
-- and without the flag `i`, returns first ways, if the engine accepted the regular expression that
-- the matcher needs. A compiled component has such a matcher.
abbrev pub MakesFirstWays : {E : Type 0} → Engine E → Type 0
MakesFirstWays engine = EachReturnsFirstOfParts engine AcceptedAlone

-- ---- the result of `exec_once`

-- `found` is what `exec_once` returns: `init` is compiled to a pattern, and `exec` of the pattern
-- returns `found` for `input`. The result is what the pattern texts mean; with an engine that makes
-- first ways it follows from the pattern texts. Inputs that are too long for `url` are left out.
pub record IsExecutedByMeaning {E : Type 0} (engine : Engine E) (init : UrlPatternInit)
    (asked : UrlPatternOptions) (input : UrlPatternMatchInput)
    (found : Option (ComponentName → ResultView)) : Type 0 where
  pub values : Values
  pub pattern : PatternView E
  pub are_values : pattern_values init ≡ Ok values
  pub compiled : AreCompiled engine asked values pattern
  pub executed : IsExecuted engine.answer pattern input found
  pub means : (texts : Texts) → input_texts input ≡ Ok texts → ¬ IsLongInput input
      → IsFoundByMeaning engine.answer (settings_of asked values compiled.hierarchical) pattern
      texts found
  pub by_text : MakesFirstWays engine → ReturnsByItsText engine.answer init asked pattern
  pub found_by_text : (firsts : MakesFirstWays engine) (texts : Texts)
      → input_texts input ≡ Ok texts
      → ¬ IsLongInput input
      → IsFoundByText (settings_of asked (by_text firsts).values (by_text firsts).hierarchical)
      texts found

-- `ReturnsByItsText` for the init that the constructor string `text` and the base URL `base` are
-- split into.
abbrev pub ReturnsByTextOf : {E : Type 0} → Engine E → (text : List ℕ) → (base : Option (List ℕ))
    → UrlPatternOptions → PatternView E → Type 0
ReturnsByTextOf engine text base asked pattern =
    (init : UrlPatternInit) × IsInitOfText engine text base init
    × ReturnsByItsText engine.answer init asked pattern
