use Rattle.std.proofs.Common.{rules}
use Rattle.url.specs.Parts.{serialize}
use Rattle.serde_json.specs.View.{view}
use Rattle.urlpattern_route_rules.proofs.CompileLemmas.{call-compiled}
use Rattle.urlpattern_route_rules.proofs.rules.RouterRules.compiled.Goals as goal

pub returns : goal.returns
returns g c =
    call-compiled g.R.RegExp (serialize c.args.self.now.script) c.args.limits.now c.rules_in-items.result.now (view c.args.json.now) _ _ _ c.append.new.self.items c.rules_in-items.ensures c.in_ok-faults.ensures (search rules) c.in_ok-rules.ensures
