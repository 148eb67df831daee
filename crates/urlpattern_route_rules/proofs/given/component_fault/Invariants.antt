use Rattle.std.proofs.Common.{◌≡◌, None, map, take}
use Rattle.urlpattern_route_rules.specs.Patterns.{first_some, part_fault}
use Rattle.urlpattern_route_rules.proofs.given.component_fault.Given as goal

abbrev pub invariant-loop-part : goal.invariant-loop-part
invariant-loop-part l = first_some (map (λ part. part_fault l.name part) (take l.part-index l.part-items)) ≡ None
