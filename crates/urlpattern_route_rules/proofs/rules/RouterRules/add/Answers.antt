use Rattle.std.proofs.Common.{◌≡◌, List, length, refl, rules, subst}
use Rattle.std.specs.Prelude.{vec_len}
use Rattle.serde_json.specs.View.{view}
use Rattle.url.specs.Parts.{serialize}
use Rattle.urlpattern_route_rules.specs.Adding.{CompilesCall}
use Rattle.urlpattern_route_rules.specs.declared.fault.RouteFault.{RouteFault}
use Rattle.urlpattern_route_rules.proofs.CompileLemmas.{empty-list, full-list}
use Rattle.urlpattern_route_rules.proofs.rules.RouterRules.add.Goals as goal

pub returns-then-not-is_empty-clause-rules : goal.returns-then-not-is_empty-clause-rules
returns-then-not-is_empty-clause-rules g c =
    let faults = c.in_ok-added.faults in
    let count : length faults.items ≡ vec_len faults = search rules in
    (c.in_ok-added.added.items, refl, full-list faults.items (vec_len faults) c.is_empty.result count c.is_empty.ensures c.if-not-is_empty.true, c.in_ok-added.ensures)

pub returns-clause-rules : goal.returns-clause-rules
returns-clause-rules g c =
    let faults = c.in_ok-added.faults in
    let count : length faults.items ≡ vec_len faults = search rules in
    let none = empty-list faults.items (vec_len faults) c.is_empty.result count c.is_empty.ensures c.if-not-is_empty.false in (
      c.in_ok-added.added.items,
      search rules,
      subst (λ (found : List RouteFault). CompilesCall g.R.RegExp (serialize c.args.self.now.script) c.args.limits.now (view c.args.json.now) c.in_ok-added.added.items found) none c.in_ok-added.ensures,
    )
