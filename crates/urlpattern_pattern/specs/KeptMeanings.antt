-- Whether the parts that a pattern keeps have a meaning.
use Rattle.std.specs.Prelude.{◌↔◌, IsSomeAnd}
use Rattle.urlpattern_components.specs.declared.eight.ComponentName.{ComponentName}
use Rattle.urlpattern_components.specs.Eight.{at}
use Rattle.urlpattern_expressions.specs.SimpleExpressions.{KeepsMeaning, KeepsMeaningByCase}
use Rattle.urlpattern_init.specs.declared.init.UrlPatternInit.{UrlPatternInit}
use Rattle.urlpattern_inputs.specs.declared.options.UrlPatternOptions.{UrlPatternOptions}
use Rattle.urlpattern_compile.specs.Compiled.{settings_of}
use Rattle.urlpattern_matcher.specs.declared.regexp.RegExp.{Ghosts as Engine}
use Rattle.urlpattern_pattern.specs.{ByText.HasMeaning, KeptParts.KeepsPartsOf}
use Rattle.urlpattern_pattern.specs.UrlPatterns.{UrlPattern}

-- The pattern has parts, and those of the component have a meaning.
abbrev pub HasMeaningIn : {E : Type 0} → UrlPattern E → ComponentName → Type 0
HasMeaningIn pattern name =
    IsSomeAnd pattern.parts (λ parts. KeepsMeaning (at parts.components name))

-- The pattern has parts, and those of the component have a meaning over an engine that honours the
-- flag `i`.
abbrev pub HasMeaningByCaseIn : {E : Type 0} → UrlPattern E → ComponentName → Type 0
HasMeaningByCaseIn pattern name =
    IsSomeAnd pattern.parts (λ parts. KeepsMeaningByCase (at parts.components name))

-- The parts that a compiled pattern keeps for a component have a meaning exactly if the pattern
-- text of the component has one.
abbrev pub KeptMeaningsAreOfTexts : {E : Type 0} → Engine E → Type 0
KeptMeaningsAreOfTexts {E} engine =
    (init : UrlPatternInit) (asked : UrlPatternOptions) (pattern : UrlPattern E)
    (kept : KeepsPartsOf engine init asked pattern)
    (name : ComponentName)
    → HasMeaningIn pattern name
    ↔ HasMeaning (settings_of asked kept.values kept.hierarchical name)
