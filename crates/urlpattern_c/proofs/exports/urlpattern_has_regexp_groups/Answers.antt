use Rattle.std.proofs.Common.{subst}
use Rattle.urlpattern_ffi.specs.Mismatches.{IsCustomReported}
use Rattle.urlpattern_c.proofs.exports.urlpattern_has_regexp_groups.Goals as goal

pub returns-clause-answer : goal.returns-clause-answer
returns-clause-answer c =
    let reported = subst (λ patterns. IsCustomReported patterns c.args.index c.has_regexp_groups-status.result) c.take-kept.ensures.taken c.has_regexp_groups-status.ensures in
    (c.has_regexp_groups-status.result, c.number.ensures, reported)
