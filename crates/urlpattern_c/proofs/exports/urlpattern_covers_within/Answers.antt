use Rattle.std.proofs.Common.{subst}
use Rattle.urlpattern_ffi.specs.ReportedCoverings.{IsCoveringReported}
use Rattle.urlpattern_c.proofs.exports.urlpattern_covers_within.Goals as goal

pub returns-clause-answer : goal.returns-clause-answer
returns-clause-answer c =
    let reported = subst (λ patterns. IsCoveringReported patterns c.args.index patterns c.args.asked c.covers-status.new.component c.covers-status.result)
    c.take-kept.ensures.taken c.covers-status.ensures in
    (c.covers-status.result, c.number.ensures, reported)
