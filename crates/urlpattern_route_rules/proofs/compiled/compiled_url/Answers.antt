use Rattle.std.proofs.Common.{Result, ap, option_map, rules, subst}
use Rattle.urlpattern_inputs.specs.InputValues.{input_view}
use Rattle.urlpattern_pattern.specs.UrlPatterns.{UrlPattern}
use Rattle.urlpattern_route_rules.specs.Patterns.{CompilesPattern}
use Rattle.urlpattern_route_rules.specs.declared.fault.PatternFault.{PatternFault}
use Rattle.urlpattern_route_rules.proofs.CompileLemmas.{url-compiled, url-rejected}
use Rattle.urlpattern_route_rules.proofs.compiled.compiled_url.Goals as goal

pub returns-in_ok-push-in-Ok : goal.returns-in_ok-push-in-Ok
returns-in_ok-push-in-Ok g c =
    let given = input_view c.in-Some.given in
    url-compiled g.R.RegExp c.args.script.now (option_map input_view c.args.given.now) given c.in-Ok.pattern c.in_ok-new-in-Ok.field-0 c.push.new.self.items c.new-faults.result.items
    (ap (option_map input_view) c.in-Some.is) c.in_ok-new-in-Ok.ensures.ok (search rules) (search rules)
    (subst (λ (result : Result (UrlPattern g.row.R.Denot) PatternFault). CompilesPattern g.R.RegExp c.args.script.now given result) c.in-Ok.is c.in_ok-pattern.ensures)

pub returns-in_ok-push-in-Err : goal.returns-in_ok-push-in-Err
returns-in_ok-push-in-Err g c =
    let given = input_view c.in-Some.given in
    url-rejected g.R.RegExp c.args.script.now (option_map input_view c.args.given.now) given c.in-Err.fault c.new-conditions.result.items c.push-in-Err.new.self.items
    (ap (option_map input_view) c.in-Some.is) (search rules) (search rules)
    (subst (λ (result : Result (UrlPattern g.row.R.Denot) PatternFault). CompilesPattern g.R.RegExp c.args.script.now given result) c.in-Err.is c.in_ok-pattern.ensures)
