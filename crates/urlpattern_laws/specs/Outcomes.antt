-- Statements of the laws on the outcomes of an init: a pattern, or an error.
use Rattle.std.specs.Prelude.{◌≡◌, ◌≢◌, ℕ, Bool, false, List, ◌++◌, Ok, Err}
use Rattle.url.specs.declared.error.ParseError.TheVariants.{Overflow}
use Rattle.urlpattern_matcher.specs.Components.{ComponentView, IsEngineOf, IsWholeEngineOf, engine_flags, has_regexp}
use Rattle.urlpattern_matcher.specs.declared.regexp.RegExp.{Ghosts as Engine}
use Rattle.urlpattern_init.specs.SpecialProtocol.{AcceptsSpecialScheme}
use Rattle.urlpattern_init.specs.declared.init.UrlPatternInit.{UrlPatternInit}
use Rattle.urlpattern_inputs.specs.declared.options.UrlPatternOptions.{UrlPatternOptions}
use Rattle.urlpattern_components.specs.declared.eight.ComponentName.{ComponentName}
use Rattle.urlpattern_components.specs.declared.eight.ComponentName.TheVariants.{Protocol}
use Rattle.urlpattern_components.specs.Eight.{Values}
use Rattle.urlpattern_syntax.specs.Errors.{ErrorView, ErrorView as views}
use Rattle.urlpattern_syntax.specs.Parts.{PartView}
use Rattle.urlpattern_syntax.specs.Reading.{Encoding}
use Rattle.urlpattern_syntax.specs.RegexpText.{regexp_text}
use Rattle.urlpattern_pattern.specs.{ByText.MakesFirstWays, ByText.ReadsNoCustom, MatchMeaning.ReadsAs, Patterns.PatternView}
use Rattle.urlpattern_compile.specs.Compiled.{IsComponentCompiled, IsPatternOfInit, ParseSettings, RejectsInit, settings_of, pattern_values}

-- ---- errors

-- The error is neither out of memory nor a text too long for `url`.
abbrev pub IsOfTexts : ErrorView → Type 0
IsOfTexts error = (error ≢ views.OutOfMemory) × (error ≢ views.Url Overflow)

-- The encoding without two errors as results: out of memory, and a text too long for `url`.
abbrev pub of_texts : Encoding → Encoding
of_texts encoding text answer =
    encoding text answer × ((error : ErrorView) → answer ≡ Err error → IsOfTexts error)

-- ---- premises on an engine

-- The engine does not both accept and reject the regular expression of a whole component.
-- `has_regexp_group` is whether the component has a custom regular expression.
abbrev pub NeverAcceptsAndRejects : {E : Type 0} → Engine E
    → (has_regexp_group : Bool) → (flags regexp : List ℕ) → Type 0
NeverAcceptsAndRejects {E} engine has_regexp_group flags regexp =
    (value : E) (error : ErrorView)
    → IsWholeEngineOf engine has_regexp_group flags regexp (Ok value)
    →
    ¬ IsWholeEngineOf engine has_regexp_group flags regexp (Err error)

-- The engine does not both accept and reject the regular expression of parts that a matcher leaves
-- to it.
abbrev pub NeverAcceptsAndRejectsPart : {E : Type 0} → Engine E → (flags regexp : List ℕ) → Type 0
NeverAcceptsAndRejectsPart {E} engine flags regexp =
    (value : E) (error : ErrorView) → IsEngineOf engine false flags regexp (Ok value)
    → ¬ IsEngineOf engine false flags regexp (Err error)

-- The engine does not both accept and reject the regular expression of the parts to which a pattern
-- text is parsed, or of any of these parts in a row.
pub record NeverAcceptsAndRejectsText {E : Type 0} (engine : Engine E) (settings : ParseSettings) :
    Type 0 where
  pub whole : (parts : List PartView) → ReadsAs settings parts →
      NeverAcceptsAndRejects engine (has_regexp parts) (engine_flags settings.options)
      (regexp_text settings.options parts)
  pub of_matcher : (parts before middle after : List PartView) → ReadsAs settings parts
      → parts ≡ before ++ middle ++ after →
      NeverAcceptsAndRejectsPart engine (engine_flags settings.options)
      (regexp_text settings.options middle)

-- If one of two components that are compiled with these settings accepts a special scheme, the
-- other does too.
abbrev pub AcceptsAlike : {E : Type 0} → Engine E → ParseSettings → Type 0
AcceptsAlike {E} engine settings = (compiled other : ComponentView E) →
    IsComponentCompiled engine settings compiled → IsComponentCompiled engine settings other →
    AcceptsSpecialScheme engine.answer compiled.matcher
    → AcceptsSpecialScheme engine.answer other.matcher

-- The engine leaves no doubt whether these values are compiled or rejected: whether the protocol is
-- special does not depend on the value that it makes, and it does not both accept and reject an
-- expression.
pub record Decides {E : Type 0} (engine : Engine E) (asked : UrlPatternOptions) (values : Values) :
    Type 0 where
  pub accepts_alike : AcceptsAlike engine (settings_of asked values false Protocol)
  pub takes_or_refuses : (hierarchical : Bool) (component : ComponentName)
      → NeverAcceptsAndRejectsText engine (settings_of asked values hierarchical component)

-- No pattern text of these values has a custom regular expression.
abbrev pub NoneIsCustom : UrlPatternOptions → Values → Type 0
NoneIsCustom asked values =
    (hierarchical : Bool) (component : ComponentName)
    → ReadsNoCustom (settings_of asked values hierarchical component)

-- The engine does not both accept and reject the regular expression of parts, if none is custom.
abbrev pub NeverAcceptsAndRejectsGenerated : {E : Type 0} → Engine E → Type 0
NeverAcceptsAndRejectsGenerated engine =
    (settings : ParseSettings) → ReadsNoCustom settings → NeverAcceptsAndRejectsText engine settings

-- The engine decides (`Decides`) the outcome of values without a custom regular expression.
abbrev pub DecidesGenerated : {E : Type 0} → Engine E → Type 0
DecidesGenerated engine =
    (asked : UrlPatternOptions) (values : Values) → NoneIsCustom asked values
    → Decides engine asked values

-- An engine whose matchers return first ways (`MakesFirstWays`), and that does not both accept and
-- reject an expression, decides (`Decides`) the outcome of values without a custom regular
-- expression.
abbrev pub FirstWaysDecide : {E : Type 0} → Engine E → Type 0
FirstWaysDecide engine =
    MakesFirstWays engine → NeverAcceptsAndRejectsGenerated engine → DecidesGenerated engine

-- ---- one outcome

-- An init is not both compiled to a pattern and rejected with an error as in `IsOfTexts`, if the
-- engine decides the outcome of its values.
abbrev pub PatternsExcludeRejections : {E : Type 0} → Engine E → Type 0
PatternsExcludeRejections {E} engine =
    (init : UrlPatternInit) (asked : UrlPatternOptions) (values : Values) (pattern : PatternView E)
    (error : ErrorView)
    →
    pattern_values init ≡ Ok values → Decides engine asked values → IsOfTexts error →
    IsPatternOfInit engine init asked pattern → ¬ RejectsInit engine init asked error

-- An init is rejected with a single error of those in `IsOfTexts`, if the engine decides the
-- outcome of its values.
abbrev pub InitRejectionsAreOne : {E : Type 0} → Engine E → Type 0
InitRejectionsAreOne engine =
    (init : UrlPatternInit) (asked : UrlPatternOptions) (values : Values) (error other : ErrorView)
    →
    pattern_values init ≡ Ok values
    → Decides engine asked values
    → IsOfTexts error
    → IsOfTexts other
    →
    RejectsInit engine init asked error → RejectsInit engine init asked other → error ≡ other

-- ---- values

-- Processed as a pattern, each init has values: none of its texts is rejected.
abbrev pub InitsHaveValues : Type 0
InitsHaveValues = (init : UrlPatternInit) → (values : Values) × (pattern_values init ≡ Ok values)
