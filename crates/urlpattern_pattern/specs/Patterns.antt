-- The components of a `UrlPattern`. The URLPattern Standard, section "URL patterns".
use Rattle.urlpattern_components.specs.declared.eight.ComponentName.{ComponentName}
use Rattle.urlpattern_components.specs.declared.eight.Eight.{Eight}
use Rattle.std.specs.Prelude.{IfOk, Result}
use Rattle.urlpattern_matcher.specs.declared.component.Component.{Component}
use Rattle.urlpattern_matcher.specs.Components.{ComponentView}
use Rattle.urlpattern_compile.specs.PatternViews.{eight_view}
pub use Rattle.urlpattern_compile.specs.PatternViews.{PatternView, has_regexp_groups}
use Rattle.urlpattern_pattern.specs.UrlPatterns.{UrlPattern}

-- The components of a pattern.
abbrev pub components_of : {E : Type 0} → UrlPattern E → Eight (Component E)
components_of pattern = pattern.components

-- The view of each component of a pattern.
abbrev pub pattern_view : {E : Type 0} → UrlPattern E → ComponentName → ComponentView E
pattern_view pattern = eight_view (components_of pattern)

-- If `result` is a pattern, `Holds` is true of the pattern's view. Nothing is said of an error.
abbrev pub IfPattern : {E Fault : Type 0} → Result (UrlPattern E) Fault → (PatternView E → Type 0)
    → Type 0
IfPattern result Holds = IfOk result (λ pattern. Holds (pattern_view pattern))
