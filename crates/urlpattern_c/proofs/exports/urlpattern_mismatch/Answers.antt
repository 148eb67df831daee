use Rattle.std.proofs.Common.{subst}
use Rattle.urlpattern_ffi.specs.Mismatches.{IsMismatchReported}
use Rattle.urlpattern_c.proofs.exports.urlpattern_mismatch.Goals as goal

pub returns-clause-answer : goal.returns-clause-answer
returns-clause-answer c =
    let reported = subst (λ patterns. IsMismatchReported patterns c.args.index c.args.url.now c.args.base.now c.mismatch-status.new.component c.mismatch-status.result)
    c.take-kept.ensures.taken c.mismatch-status.ensures in
    (c.mismatch-status.result, c.number.ensures, reported)
