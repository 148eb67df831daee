use Rattle.std.proofs.Common.{map, take}
use Rattle.urlpattern_conditions.specs.ConditionViews.{conditions_view}
use Rattle.urlpattern_route_rules.specs.Compiling.{CompileEach}
use Rattle.urlpattern_routes.specs.Views.{condition_view as given_view, listed}
use Rattle.urlpattern_route_rules.proofs.compiled.+compiling.Given as goal

abbrev pub invariant-compiled_each-loop-one : goal.invariant-compiled_each-loop-one
invariant-compiled_each-loop-one g l =
    CompileEach g.R.RegExp l.script (listed (map given_view (take l.one-index l.one-items))) (conditions_view l.conditions.items) l.faults.items
