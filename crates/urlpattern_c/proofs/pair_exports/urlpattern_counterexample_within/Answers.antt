use Rattle.std.proofs.Common.{subst}
use Rattle.urlpattern_ffi.specs.PairTexts.{IsCounterexampleReported}
use Rattle.urlpattern_c.proofs.pair_exports.urlpattern_counterexample_within.Goals as goal

pub returns-clause-answer : goal.returns-clause-answer
returns-clause-answer c =
    let reported = subst (λ patterns. IsCounterexampleReported patterns c.args.index patterns c.args.asked c.args.buffer.now c.counterexample-status.new.buffer c.counterexample-status.new.needed c.counterexample-status.result)
    c.take-kept.ensures.taken c.counterexample-status.ensures in
    (c.counterexample-status.result, c.number.ensures, reported)
