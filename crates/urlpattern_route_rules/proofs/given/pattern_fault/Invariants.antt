use Rattle.std.proofs.Common.{◌≡◌, None, map, take}
use Rattle.urlpattern_components.specs.Eight.{at}
use Rattle.urlpattern_route_rules.specs.Patterns.{component_fault, first_some}
use Rattle.urlpattern_route_rules.proofs.given.pattern_fault.Given as goal

abbrev pub invariant-loop-name : goal.invariant-loop-name
invariant-loop-name l = first_some (map (λ name. component_fault name (at l.parts.components name).parts.items) (take l.name-index l.name-items)) ≡ None
