use Rattle.std.proofs.Common.{subst}
use Rattle.urlpattern_ffi_tables.specs.CoveringReasons.{IsReasonReported}
use Rattle.urlpattern_c.proofs.reason_exports.urlpattern_covering_reason_within.Goals as goal

pub returns-clause-answer : goal.returns-clause-answer
returns-clause-answer c =
    let reported = subst (λ patterns. IsReasonReported patterns c.args.index patterns c.args.asked c.args.reason.now c.covering_reason-status.new.reason c.covering_reason-status.result)
    c.take-kept.ensures.taken c.covering_reason-status.ensures in
    (c.covering_reason-status.result, c.number.ensures, reported)
