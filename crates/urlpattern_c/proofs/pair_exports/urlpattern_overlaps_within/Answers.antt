use Rattle.std.proofs.Common.{subst}
use Rattle.urlpattern_ffi.specs.PairTexts.{IsOverlapReported}
use Rattle.urlpattern_c.proofs.pair_exports.urlpattern_overlaps_within.Goals as goal

pub returns-clause-answer : goal.returns-clause-answer
returns-clause-answer c =
    let reported = subst (λ patterns. IsOverlapReported patterns c.args.index patterns c.args.other c.args.buffer.now c.overlaps-status.new.buffer c.overlaps-status.new.needed c.overlaps-status.result)
    c.take-kept.ensures.taken c.overlaps-status.ensures in
    (c.overlaps-status.result, c.number.ensures, reported)
