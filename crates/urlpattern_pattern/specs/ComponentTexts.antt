-- The text of one component of a pattern, written from the component's parts so that its groups
-- capture given texts.
use Rattle.std.specs.Prelude.{◌≡◌, ℕ, List, MatchOption, Option}
use Rattle.urlpattern_compile.specs.PatternViews.{eight_view}
use Rattle.urlpattern_components.specs.declared.eight.ComponentName.{ComponentName}
use Rattle.urlpattern_components.specs.Eight.{at}
use Rattle.urlpattern_generate.specs.Generating.{HasText, LacksText}
use Rattle.urlpattern_generate.specs.WriteSettings.{GivenView, WriteSettings, settings_for}
use Rattle.urlpattern_generate.specs.declared.generate_error.GenerateError.{GenerateError}
use Rattle.urlpattern_generate.specs.declared.generate_error.GenerateError.TheVariants.{NoParts}
use Rattle.urlpattern_meaning.specs.PartMeaning.{Captures}
use Rattle.urlpattern_pattern.specs.UrlPatterns.{UrlPattern}
use Rattle.urlpattern_compare.specs.declared.pattern_parts.PatternParts.{PatternParts}
use Rattle.urlpattern_syntax.specs.ComponentParts.{kept_options, kept_parts}
use Rattle.urlpattern_syntax.specs.Parts.{PartView}

-- The parts of the component `component`.
abbrev pub parts_in : PatternParts → ComponentName → List PartView
parts_in parts component = kept_parts (at parts.components component)

-- How the text of `component` is written from its parts: with which options and which canonical
-- form, and with which texts of `groups`.
abbrev pub settings_in : PatternParts → List GivenView → ComponentName → WriteSettings
settings_in parts groups component =
    settings_for component (kept_options (at parts.components component)) (parts_in parts component)
    groups

-- The pattern was not put together by hand, so it has parts, and `Holds` is true of the parts.
abbrev pub HasParts : {E : Type 0} → UrlPattern E → (PatternParts → Type 0) → Type 0
HasParts pattern Holds = MatchOption pattern.parts ⊥ Holds

-- `text` is written from the parts of `component` with the texts of `groups` and is canonical, and
-- the component's matcher captures the requested texts in it.
abbrev pub GeneratesText : {E : Type 0} → (answer : E → List ℕ → Option Captures) → UrlPattern E
    → ComponentName → List GivenView → (text : List ℕ) → Type 0
GeneratesText answer pattern component groups text =
    HasParts pattern (λ parts.
    HasText answer (eight_view pattern.components component).matcher
    (settings_in parts groups component) (parts_in parts component) text)

-- `error` says why `component` has no text with `groups`: the pattern was put together by hand, or
-- what is wrong with groups and parts.
abbrev pub RejectsGroups : {E : Type 0} → (answer : E → List ℕ → Option Captures) → UrlPattern E
    → ComponentName → List GivenView → GenerateError → Type 0
RejectsGroups answer pattern component groups error =
    MatchOption pattern.parts (error ≡ NoParts)
    (λ parts.
    LacksText answer (eight_view pattern.components component).matcher component
    (settings_in parts groups component) (parts_in parts component) error)
