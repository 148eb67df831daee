use Rattle.std.proofs.Common.{map, take}
use Rattle.serde_json.specs.View.{view}
use Rattle.urlpattern_route_rules.specs.Adding.{CompilesFrom}
use Rattle.urlpattern_routes.specs.Rules.{reading_of}
use Rattle.urlpattern_route_rules.proofs.rules.RouterRules.compiled_rules.Given as goal

abbrev pub invariant-loop-index : goal.invariant-loop-index
invariant-loop-index g l = CompilesFrom g.R.RegExp l.script 0 (map (λ value. reading_of l.limits (view value)) (take l.index l.items)) l.rules.items l.faults.items
