use Rattle.std.proofs.Common.{subst}
use Rattle.urlpattern_ffi_routes.specs.KeptRoutes.{Routes}
use Rattle.urlpattern_ffi_routes.specs.DecidedRequests.{IsRequestDecided}
use Rattle.urlpattern_c.proofs.static_route_exports.urlpattern_static_routes_decide.Goals as goal

pub returns-clause-answer : goal.returns-clause-answer
returns-clause-answer c =
    let it = c.decide_request-status in
    (it.result, c.number.ensures, subst (λ (routes : Routes). IsRequestDecided routes.rules c.args.url.now c.args.method.now c.args.mode.now c.args.destination.now c.args.is_running c.args.rule.now it.new.rule it.result) c.take-kept.ensures.taken it.ensures)
