use Rattle.std.proofs.Common.{◌≤◌, List, arith, length, map, rules, subst, take_all}
use Rattle.urlpattern_conditions.specs.ConditionViews.{conditions_view}
use Rattle.urlpattern_route_rules.specs.Compiling.{CompileEach}
use Rattle.urlpattern_routes.specs.Views.{condition_view as given_view, listed}
use Rattle.urlpattern_routes.specs.declared.condition.RouterCondition.{RouterCondition}
use Rattle.urlpattern_route_rules.proofs.CompileLemmas.{each-more}
use Rattle.urlpattern_route_rules.proofs.compiled.+compiling.Goals as goal

pub compiled_each-loop-one-preserved : goal.compiled_each-loop-one-preserved
compiled_each-loop-one-preserved g t c =
    each-more g.R.RegExp c.args.script.now c.deref-one-items.result.now c.loop-one.one-index c.one-item.result c.loop-one.conditions.items c.push.new.self.items c.loop-one.faults.items c.append.new.self.items c.in_ok-condition.condition c.in_ok-condition.own.items
    c.loop-one-test.true c.one-item.is (search rules) (search rules) c.loop-one.invariant c.in_ok-condition.ensures

pub compiled_each-returns : goal.compiled_each-returns
compiled_each-returns g t c =
    let its = c.deref-one-items.result.now in
    let all : length its ≤ c.loop-one.one-index = omega arith in
    subst (λ (items : List RouterCondition). CompileEach g.R.RegExp c.args.script.now (listed (map given_view items)) (conditions_view c.loop-one.conditions.items) c.loop-one.faults.items) c.deref-one-items.ensures.value
    (subst (λ (items : List RouterCondition). CompileEach g.R.RegExp c.args.script.now (listed (map given_view items)) (conditions_view c.loop-one.conditions.items) c.loop-one.faults.items) (take_all c.loop-one.one-index its all) c.loop-one.invariant)
