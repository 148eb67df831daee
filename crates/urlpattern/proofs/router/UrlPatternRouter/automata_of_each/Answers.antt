use Rattle.std.proofs.Common.{arith, length, ◌<◌, ◌≡◌}
use Rattle.std.specs.Str.{chars}
use Rattle.urlpattern.proofs.RouteReachLemmas.{all-before, before-more, before-none, there-is}
use Rattle.urlpattern.specs.Routes.{Takes}
use Rattle.urlpattern.proofs.router.UrlPatternRouter.automata_of_each.Goals as goal

pub loop-index-init : goal.loop-index-init
loop-index-init g c = rw (c.new-routes.ensures.items, c.new-automata.ensures.items) (before-none g.R.RegExp c.args.self.now.routes (Takes (chars c.args.method.now)))

pub loop-index-preserved : goal.loop-index-preserved
loop-index-preserved g c =
    let routes = c.args.self.now.routes in
    let within : c.loop-index.index < length routes = omega (arith, c.loop-index-test.true, c.len-index-end.ensures) in
    let (entry, there) = there-is routes c.loop-index.index within in
    before-more g.R.RegExp routes (Takes (chars c.args.method.now)) c.loop-index.index c.loop-index.routes.items c.add_route.new.routes.items c.loop-index.automata.items c.add_route.new.automata.items entry there
    c.in_ok-add_route.ensures.added c.loop-index.invariant

pub returns-clause-found : goal.returns-clause-found
returns-clause-found g c =
    let before = c.loop-index.invariant in
    let last : c.loop-index.index ≡ length c.args.self.now.routes = omega (arith, c.loop-index-test.false, c.loop-index.auto.index-end, c.len-index-end.ensures) in
    (all-before g.R.RegExp c.args.self.now.routes (Takes (chars c.args.method.now)) c.loop-index.index c.loop-index.routes.items c.loop-index.automata.items last before, before.have)
