use Rattle.urlpattern_route_analysis.proofs.ScopeLemmas.{outside_view}
use Rattle.urlpattern_route_analysis.proofs.scope.outside_at.Goals as goal

pub returns : goal.returns
returns c =
    outside_view c.args.index c.in_ok-navigation.navigation c.in_ok-worker.worker c.in_ok-shared.shared c.in_ok-inner.inner c.in_ok-outer.outer c.in_ok-inner.ensures.items c.in_ok-outer.ensures.items c.in_ok-navigation.ensures
    c.in_ok-worker.ensures c.in_ok-shared.ensures
