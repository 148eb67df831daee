use Rattle.std.proofs.Common.{subst}
use Rattle.urlpattern_ffi.specs.PassedTexts.{AreTextsOfPath, IsNoPath}
use Rattle.urlpattern_ffi_tables.specs.AllowedMethodTexts.{AreAllowedReported}
use Rattle.urlpattern_c.proofs.router_exports.urlpattern_router_allowed.Goals as goal

pub returns-clause-answer : goal.returns-clause-answer
returns-clause-answer c =
    let reported = subst (λ router. AreAllowedReported (AreTextsOfPath c.args.path.now) (IsNoPath c.args.path.now) router c.args.method.now c.args.buffer.now c.allowed_methods_of_path-status.new.buffer c.allowed_methods_of_path-status.new.needed c.allowed_methods_of_path-status.result)
    c.take-kept.ensures.taken c.allowed_methods_of_path-status.ensures in
    (c.allowed_methods_of_path-status.result, c.number.ensures, reported)
