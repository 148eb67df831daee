use Rattle.std.proofs.Common.{subst}
use Rattle.urlpattern_ffi.specs.Calls.{IsNoUrl}
use Rattle.urlpattern_ffi_tables.specs.RoutedRequests.{AreTextsOfUrl, IsRequestReported}
use Rattle.urlpattern_c.proofs.router_exports.urlpattern_router_at_url.Goals as goal

pub returns-clause-answer : goal.returns-clause-answer
returns-clause-answer c =
    let reported = subst (λ router. IsRequestReported (AreTextsOfUrl c.args.url.now c.args.base.now) (IsNoUrl c.args.url.now c.args.base.now) router c.args.method.now c.args.index.now c.route_of_url-status.new.index c.args.buffer.now c.route_of_url-status.new.buffer
    c.args.spans.now c.route_of_url-status.new.spans c.route_of_url-status.new.needed c.route_of_url-status.result)
    c.take-kept.ensures.taken c.route_of_url-status.ensures in
    (c.route_of_url-status.result, c.number.ensures, reported)
