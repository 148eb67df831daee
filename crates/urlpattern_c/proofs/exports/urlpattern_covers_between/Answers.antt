use Rattle.std.proofs.Common.{subst}
use Rattle.urlpattern_c.specs.Handles.{patterns_in}
use Rattle.urlpattern_ffi.specs.ReportedCoverings.{IsCoveringReported}
use Rattle.urlpattern_ffi.specs.KeptPatterns.{PatternList, boxed_patterns}
use Rattle.urlpattern_c.proofs.exports.urlpattern_covers_between.Goals as goal

pub returns-clause-answer : goal.returns-clause-answer
returns-clause-answer c =
    let Reports = λ (patterns others : PatternList).
    IsCoveringReported patterns c.args.index others c.args.asked c.covers-status.new.component c.covers-status.result in
    let of_patterns = subst (λ patterns. Reports patterns (boxed_patterns c.take-other_kept.result)) c.take-kept.ensures.taken c.covers-status.ensures in
    let reported = subst (Reports (patterns_in c.args.patterns.now)) c.take-other_kept.ensures.taken of_patterns in
    (c.covers-status.result, c.number.ensures, reported)
