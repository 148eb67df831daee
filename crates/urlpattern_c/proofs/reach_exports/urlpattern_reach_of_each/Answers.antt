use Rattle.std.proofs.Common.{subst}
use Rattle.urlpattern_ffi_tables.specs.WrittenReaches.{AreReachesReported}
use Rattle.urlpattern_c.proofs.reach_exports.urlpattern_reach_of_each.Goals as goal

pub returns-clause-answer : goal.returns-clause-answer
returns-clause-answer c =
    let reported = subst (λ patterns. AreReachesReported patterns c.args.buffer.now c.write_reaches-status.new.buffer c.write_reaches-status.new.needed c.write_reaches-status.result)
    c.take-kept.ensures.taken c.write_reaches-status.ensures in
    (c.write_reaches-status.result, c.number.ensures, reported)
