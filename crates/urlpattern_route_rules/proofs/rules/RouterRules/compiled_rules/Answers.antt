use Rattle.std.proofs.Common.{◌≤◌, ℕ, List, arith, length, map, rules, subst, take_all}
use Rattle.serde_json.specs.View.{view}
use Rattle.serde_json.specs.declared.value.Value.{Value}
use Rattle.urlpattern_route_rules.specs.Adding.{CompilesFrom}
use Rattle.urlpattern_routes.specs.Rules.{reading_of}
use Rattle.urlpattern_route_rules.proofs.CompileLemmas.{rules-more}
use Rattle.urlpattern_route_rules.proofs.rules.RouterRules.compiled_rules.Goals as goal

pub loop-index-preserved : goal.loop-index-preserved
loop-index-preserved g c =
    rules-more g.R.RegExp c.as_str-script.result.now c.args.limits.now c.args.items.now c.loop-index.index c.index-items-index.result c.loop-index.rules.items c.push.new.self.items c.loop-index.faults.items c.append.new.self.items c.in_ok-rule.rule c.in_ok-rule.own.items
    c.loop-index-test.true c.index-items-index.is (search rules) (search rules) c.loop-index.invariant c.in_ok-rule.ensures

pub returns : goal.returns
returns g c =
    let its = c.args.items.now in
    let all : length its ≤ c.loop-index.index = omega arith in
    subst (λ (script : List ℕ). CompilesFrom g.R.RegExp script 0 (map (λ item. reading_of c.args.limits.now (view item)) its) c.loop-index.rules.items c.loop-index.faults.items) c.as_str-script.ensures.value
    (subst (λ (items : List Value). CompilesFrom g.R.RegExp c.as_str-script.result.now 0 (map (λ item. reading_of c.args.limits.now (view item)) items) c.loop-index.rules.items c.loop-index.faults.items) (take_all c.loop-index.index its all) c.loop-index.invariant)
