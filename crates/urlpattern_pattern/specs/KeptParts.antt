-- The parts that a compiled pattern keeps: its pattern texts are parsed to these parts, and its
-- components are made of them.
use Rattle.std.specs.Prelude.{◌≡◌, ℕ, Bool, List, Ok, Option, Some}
use Rattle.urlpattern_matcher.specs.declared.component.{Component.Component, ComponentWithParts.ComponentWithParts}
use Rattle.urlpattern_matcher.specs.declared.regexp.RegExp.{Ghosts as Engine}
use Rattle.urlpattern_compile.specs.Compiled.{IsPathKind, ParseSettings, ReadsAs, settings_of, pattern_values}
use Rattle.urlpattern_compile.specs.FromString.{IsInitOfText}
use Rattle.urlpattern_components.specs.declared.eight.ComponentName.{ComponentName}
use Rattle.urlpattern_components.specs.declared.eight.ComponentName.TheVariants.{Protocol}
use Rattle.urlpattern_components.specs.declared.eight.Eight.{Eight}
use Rattle.urlpattern_components.specs.Eight.{Values, at}
use Rattle.urlpattern_init.specs.declared.init.UrlPatternInit.{UrlPatternInit}
use Rattle.urlpattern_inputs.specs.declared.options.UrlPatternOptions.{UrlPatternOptions}
use Rattle.urlpattern_pattern.specs.Patterns.{pattern_view}
use Rattle.urlpattern_pattern.specs.UrlPatterns.{AreMadeOfParts, UrlPattern}
use Rattle.urlpattern_compare.specs.declared.pattern_parts.PatternParts.{PatternParts}
use Rattle.urlpattern_syntax.specs.ComponentParts.{kept_options, kept_parts}
use Rattle.urlpattern_syntax.specs.declared.parts.ComponentParts.{ComponentParts}

-- `kept` has the options of `settings`, and parts that the pattern text of `settings` is parsed to.
pub record AreReadBySettings (settings : ParseSettings) (kept : ComponentParts) : Type 0 where
  pub options_are : kept_options kept ≡ settings.options
  pub reads : ReadsAs settings (kept_parts kept)

-- `pattern` keeps the parts that its pattern texts are parsed to, and all fields of each component
-- are made of them. The pattern texts are the values of `init`, the options are `asked`, and the
-- protocol decides whether the pathname is hierarchical.
pub record KeepsPartsOf {E : Type 0} (engine : Engine E) (init : UrlPatternInit)
    (asked : UrlPatternOptions) (pattern : UrlPattern E) : Type 0 where
  pub parts : PatternParts
  pub values : Values
  pub hierarchical : Bool
  pub has_parts : pattern.parts ≡ Some parts
  pub are_values : pattern_values init ≡ Ok values
  pub path_kind : IsPathKind engine.answer values (pattern_view pattern Protocol).matcher
      hierarchical
  pub are_read : (name : ComponentName)
      → AreReadBySettings (settings_of asked values hierarchical name) (at parts.components name)
  pub are_made : AreMadeOfParts engine parts (pattern_view pattern)

-- `KeepsPartsOf` for the init that the constructor string `text` and the base URL `base` are split
-- into.
abbrev pub KeepsPartsOfText : {E : Type 0} → Engine E → (text : List ℕ) → (base : Option (List ℕ))
    → UrlPatternOptions → UrlPattern E → Type 0
KeepsPartsOfText engine text base asked pattern =
    (init : UrlPatternInit) × IsInitOfText engine text base init
    × KeepsPartsOf engine init asked pattern

-- `made` is separated: `components` has its components, and `parts` the parts that they were made
-- of.
pub record AreSeparated {E : Type 0} (made : Eight (ComponentWithParts E))
    (components : Eight (Component E)) (parts : PatternParts) : Type 0 where
  pub components_are : (name : ComponentName) → at components name ≡ (at made name).component
  pub parts_are : (name : ComponentName) → at parts.components name ≡ (at made name).kept
