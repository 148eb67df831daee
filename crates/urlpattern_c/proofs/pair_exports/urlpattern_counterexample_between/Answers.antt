use Rattle.std.proofs.Common.{subst}
use Rattle.urlpattern_c.specs.Handles.{patterns_in}
use Rattle.urlpattern_ffi.specs.KeptPatterns.{PatternList, boxed_patterns}
use Rattle.urlpattern_ffi.specs.PairTexts.{IsCounterexampleReported}
use Rattle.urlpattern_c.proofs.pair_exports.urlpattern_counterexample_between.Goals as goal

pub returns-clause-answer : goal.returns-clause-answer
returns-clause-answer c =
    let Reports = λ (patterns others : PatternList).
    IsCounterexampleReported patterns c.args.index others c.args.asked c.args.buffer.now c.counterexample-status.new.buffer c.counterexample-status.new.needed c.counterexample-status.result in
    let of_patterns = subst (λ patterns. Reports patterns (boxed_patterns c.take-other_kept.result)) c.take-kept.ensures.taken c.counterexample-status.ensures in
    let reported = subst (Reports (patterns_in c.args.patterns.now)) c.take-other_kept.ensures.taken of_patterns in
    (c.counterexample-status.result, c.number.ensures, reported)
