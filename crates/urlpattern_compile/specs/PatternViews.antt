-- A pattern as its components, after the URLPattern Standard, section "URL patterns".
use Rattle.urlpattern_components.specs.declared.eight.ComponentName.{ComponentName}
use Rattle.urlpattern_components.specs.declared.eight.Eight.{Eight}
use Rattle.std.specs.Prelude.{Bool}
use Rattle.std.specs.List.{list_any}
use Rattle.urlpattern_components.specs.Eight.{at, components}
use Rattle.urlpattern_matcher.specs.declared.component.Component.{Component}
use Rattle.urlpattern_matcher.specs.Components.{ComponentView, component_view}

-- A whole pattern: the view of each component.
abbrev pub PatternView : Type 0 → Type 0
PatternView E = ComponentName → ComponentView E

-- The whole pattern that has these eight components.
abbrev pub eight_view : {E : Type 0} → Eight (Component E) → ComponentName → ComponentView E
eight_view components name = component_view (at components name)

-- Whether any component has a custom regular expression.
abbrev pub has_regexp_groups : {E : Type 0} → PatternView E → Bool
has_regexp_groups pattern = list_any (λ component. (pattern component).has_regexp_group) components
