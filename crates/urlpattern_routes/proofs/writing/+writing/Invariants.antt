use Rattle.std.proofs.Common.{◌≡◌, map, take}
use Rattle.serde_json.specs.View.{view}
use Rattle.urlpattern_routes.specs.Trees.{condition_tree}
use Rattle.urlpattern_routes.specs.Views.{condition_view}
use Rattle.urlpattern_routes.proofs.writing.+writing.Given as goal

abbrev pub invariant-conditions_json-loop-condition : goal.invariant-conditions_json-loop-condition
invariant-conditions_json-loop-condition l =
    map view l.items.items ≡ map (λ one. condition_tree (condition_view one)) (take l.condition-index l.condition-items)
