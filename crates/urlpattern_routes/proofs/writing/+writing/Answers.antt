use Rattle.std.proofs.Common.{◌≤◌, ◌∙◌, List, ap, arith, length, map, take_all}
use Rattle.serde_json.specs.View.{items_of}
use Rattle.urlpattern_routes.specs.Trees.{condition_tree}
use Rattle.urlpattern_routes.specs.Views.{condition_view}
use Rattle.urlpattern_routes.specs.declared.condition.RouterCondition.{RouterCondition}
use Rattle.urlpattern_routes.proofs.WritingLemmas.{items-listed}
use Rattle.urlpattern_routes.proofs.writing.+writing.Goals as goal

pub conditions_json-returns : goal.conditions_json-returns
conditions_json-returns t c =
    let its = c.deref-condition-items.result.now in
    let all : length its ≤ c.loop-condition.condition-index = omega arith in
    ap items_of (c.loop-condition.invariant ∙ ap (λ (xs : List RouterCondition). map (λ one. condition_tree (condition_view one)) xs) (take_all c.loop-condition.condition-index its all ∙ c.deref-condition-items.ensures.value))
    ∙ items-listed c.args.conditions.now.items
