use Rattle.std.proofs.Common.{subst}
use Rattle.urlpattern_ffi.specs.Calls.{IsNoUrl}
use Rattle.urlpattern_ffi_tables.specs.AllowedMethodTexts.{AreAllowedReported}
use Rattle.urlpattern_ffi_tables.specs.RoutedRequests.{AreTextsOfUrl}
use Rattle.urlpattern_c.proofs.router_exports.urlpattern_router_allowed_at_url.Goals as goal

pub returns-clause-answer : goal.returns-clause-answer
returns-clause-answer c =
    let reported = subst (λ router. AreAllowedReported (AreTextsOfUrl c.args.url.now c.args.base.now) (IsNoUrl c.args.url.now c.args.base.now) router c.args.method.now c.args.buffer.now c.allowed_methods_of_url-status.new.buffer c.allowed_methods_of_url-status.new.needed c.allowed_methods_of_url-status.result)
    c.take-kept.ensures.taken c.allowed_methods_of_url-status.ensures in
    (c.allowed_methods_of_url-status.result, c.number.ensures, reported)
