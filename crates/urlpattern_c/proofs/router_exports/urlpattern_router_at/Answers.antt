use Rattle.std.proofs.Common.{subst}
use Rattle.urlpattern_ffi.specs.PassedTexts.{AreTextsOfPath, IsNoPath}
use Rattle.urlpattern_ffi_tables.specs.RoutedRequests.{IsRequestReported}
use Rattle.urlpattern_c.proofs.router_exports.urlpattern_router_at.Goals as goal

pub returns-clause-answer : goal.returns-clause-answer
returns-clause-answer c =
    let reported = subst (λ router. IsRequestReported (AreTextsOfPath c.args.path.now) (IsNoPath c.args.path.now) router c.args.method.now c.args.index.now c.route_of_path-status.new.index c.args.buffer.now c.route_of_path-status.new.buffer
    c.args.spans.now c.route_of_path-status.new.spans c.route_of_path-status.new.needed c.route_of_path-status.result)
    c.take-kept.ensures.taken c.route_of_path-status.ensures in
    (c.route_of_path-status.result, c.number.ensures, reported)
