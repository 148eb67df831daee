use Rattle.std.proofs.Common.{subst}
use Rattle.urlpattern_ffi_tables.specs.RouteLinks.{IsRouteLinkReported}
use Rattle.urlpattern_c.proofs.router_exports.urlpattern_router_link.Goals as goal

pub returns-clause-answer : goal.returns-clause-answer
returns-clause-answer c =
    let reported = subst (λ router. IsRouteLinkReported router c.args.name.now c.args.text.now c.args.given.now c.args.buffer.now c.link_route-status.new.buffer c.link_route-status.new.needed c.link_route-status.result)
    c.take-kept.ensures.taken c.link_route-status.ensures in
    (c.link_route-status.result, c.number.ensures, reported)
