use Rattle.std.proofs.Common.{subst}
use Rattle.urlpattern_ffi.specs.ReportedMeanings.{IsMeaningReported}
use Rattle.urlpattern_c.proofs.exports.urlpattern_has_meaning.Goals as goal

pub returns-clause-answer : goal.returns-clause-answer
returns-clause-answer c =
    let reported = subst (λ patterns. IsMeaningReported patterns c.args.index c.has_meaning-status.result) c.take-kept.ensures.taken c.has_meaning-status.ensures in
    (c.has_meaning-status.result, c.number.ensures, reported)
