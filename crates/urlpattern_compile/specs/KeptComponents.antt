-- Patterns with their parts: each component with the parts of its pattern text, of which it is
-- made.
use Rattle.std.specs.Prelude.{◌≡◌, Bool, Ok}
use Rattle.urlpattern_matcher.specs.Components.{IsComponentOf, component_view, honours_case}
use Rattle.urlpattern_matcher.specs.declared.component.ComponentWithParts.{ComponentWithParts}
use Rattle.urlpattern_matcher.specs.declared.regexp.RegExp.{Ghosts as Engine}
use Rattle.urlpattern_compile.specs.Compiled.{HasEngine, IsPathKind, ParseSettings, ReadsAs, settings_of, pattern_values}
use Rattle.urlpattern_components.specs.declared.eight.ComponentName.{ComponentName}
use Rattle.urlpattern_components.specs.declared.eight.Eight.{Eight}
use Rattle.urlpattern_components.specs.Eight.{Values, at}
use Rattle.urlpattern_init.specs.declared.init.UrlPatternInit.{UrlPatternInit}
use Rattle.urlpattern_inputs.specs.declared.options.UrlPatternOptions.{UrlPatternOptions}
use Rattle.urlpattern_syntax.specs.ComponentParts.{kept_options, kept_parts}

-- The engine compiles `made` as `settings` say: its parts are those that the text reads as, the
-- component is made of them, the engine accepted the regular expressions that the component needs,
-- and `made` says whether its matcher honours case.
pub record IsCompiledWithParts {E : Type 0} (engine : Engine E) (settings : ParseSettings)
    (made : ComponentWithParts E) : Type 0 where
  pub options_are : kept_options made.kept ≡ settings.options
  pub reads : ReadsAs settings (kept_parts made.kept)
  pub is_made : IsComponentOf engine settings.options (kept_parts made.kept)
      (component_view made.component)
  pub has_engine : HasEngine (component_view made.component)
  pub case : made.kept.honours_case
      ≡ honours_case engine (component_view made.component).matcher.inner

-- Each of eight components is compiled, with its parts, as the settings for its name say.
abbrev pub EachIsCompiledWithParts : {E : Type 0} → Engine E
    → (settings : ComponentName → ParseSettings) → Eight (ComponentWithParts E) → Type 0
EachIsCompiledWithParts engine settings made =
    (name : ComponentName) → IsCompiledWithParts engine (settings name) (at made name)

-- `values` are compiled under the options `asked` to the components `made`, each with its parts.
-- The values and the protocol's matcher decide whether the pathname is hierarchical.
pub record AreCompiledWithParts {E : Type 0} (engine : Engine E) (asked : UrlPatternOptions)
    (values : Values) (made : Eight (ComponentWithParts E)) : Type 0 where
  pub hierarchical : Bool
  pub path_kind : IsPathKind engine.answer values (component_view made.protocol.component).matcher
      hierarchical
  pub are_kept : EachIsCompiledWithParts engine (settings_of asked values hierarchical) made

-- The init is compiled under the options `asked` to the components `made`, each with its parts.
abbrev pub IsInitCompiledWithParts : {E : Type 0} → Engine E → UrlPatternInit → UrlPatternOptions
    → Eight (ComponentWithParts E) → Type 0
IsInitCompiledWithParts engine init asked made =
    (values : Values) × (pattern_values init ≡ Ok values)
    × AreCompiledWithParts engine asked values made
