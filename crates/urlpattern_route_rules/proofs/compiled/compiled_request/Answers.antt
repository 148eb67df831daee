use Rattle.urlpattern_routes.specs.Views.{request_view}
use Rattle.urlpattern_route_rules.proofs.CompileLemmas.{request-compiled, view-All}
use Rattle.urlpattern_route_rules.proofs.compiled.compiled_request.Goals as goal

pub returns : goal.returns
returns g c =
    request-compiled g.R.RegExp c.args.script.now (request_view c.args.given.now) _ _ _ _ _ _ _ (view-All c.push_name-4.new.conditions) c.in_ok-all.ensures
    c.in_ok-push_name.ensures c.in_ok-push_name-2.ensures c.in_ok-push_name-3.ensures c.in_ok-push_name-4.ensures
