-- Patterns as plain data, as the functions for browsers return them.
use Rattle.std.specs.Prelude.{◌≡◌, ℕ, List, Result, IfOk}
use Rattle.urlpattern_pattern.specs.{Patterns.PatternView, Patterns.has_regexp_groups}
use Rattle.urlpattern_compile.specs.{Compiled.IsPatternOfInit}
use Rattle.urlpattern_matcher.specs.Components.{component_view}
use Rattle.urlpattern_matcher.specs.declared.component.Component.{Component}
use Rattle.urlpattern_plain.specs.Plain.{plain_component}
use Rattle.urlpattern_plain.specs.Values as plain
use Rattle.urlpattern_plain.specs.declared.pattern.{UrlPatternComponent.UrlPatternComponent, UrlPattern.UrlPattern}
use Rattle.urlpattern_matcher.specs.declared.regexp.RegExp.{Ghosts as Engine}
use Rattle.urlpattern_init.specs.declared.init.UrlPatternInit.{UrlPatternInit}
use Rattle.urlpattern_inputs.specs.declared.options.UrlPatternOptions.{UrlPatternOptions}
use Rattle.urlpattern_components.specs.Eight.{each}
use Rattle.urlpattern_syntax.specs.Text.{text_of}
use Rattle.urlpattern_syntax.specs.Errors.{OnlyOutOfMemory}
use Rattle.urlpattern_syntax.specs.declared.error.Error.{Error}

-- `result` is the component as plain data, unless memory ran out.
pub record IsPlainOf {E : Type 0} (text_made_of : E → List ℕ) (component : Component E)
    (result : Result UrlPatternComponent Error) : Type 0 where
  pub plain : IfOk result (λ value.
      plain.component_by text_of value ≡ plain_component text_made_of (component_view component))
  pub memory : OnlyOutOfMemory result

-- A pattern as plain data: its components, and whether any has a custom regular expression.
-- `text_made_of` returns the text of an engine's value.
abbrev pub plain_pattern : {E : Type 0} → (text_made_of : E → List ℕ) → PatternView E
    → plain.PlainPatternView
plain_pattern text_made_of pattern = record {
  components = each (λ name. plain_component text_made_of (pattern name));
  has_regexp_groups = has_regexp_groups pattern;
}

-- `value` is, as plain data, a pattern to which the init is compiled.
abbrev pub IsPlainOfInit : {E : Type 0} → Engine E → UrlPatternInit → UrlPatternOptions → UrlPattern
    → Type 0
IsPlainOfInit {E} engine init asked value =
    (compiled : PatternView E) × IsPatternOfInit engine init asked compiled
    × (plain.pattern_by text_of value ≡ plain_pattern engine.text_made_of compiled)
