use Rattle.std.proofs.Common.{subst}
use Rattle.urlpattern_c.specs.Handles.{patterns_in}
use Rattle.urlpattern_ffi.specs.KeptPatterns.{PatternList, boxed_patterns}
use Rattle.urlpattern_ffi_tables.specs.CoveringReasons.{IsReasonReported}
use Rattle.urlpattern_c.proofs.reason_exports.urlpattern_covering_reason_between.Goals as goal

pub returns-clause-answer : goal.returns-clause-answer
returns-clause-answer c =
    let Reports = λ (patterns others : PatternList).
    IsReasonReported patterns c.args.index others c.args.asked c.args.reason.now c.covering_reason-status.new.reason c.covering_reason-status.result in
    let of_patterns = subst (λ patterns. Reports patterns (boxed_patterns c.take-other_kept.result)) c.take-kept.ensures.taken c.covering_reason-status.ensures in
    let reported = subst (Reports (patterns_in c.args.patterns.now)) c.take-other_kept.ensures.taken of_patterns in
    (c.covering_reason-status.result, c.number.ensures, reported)
