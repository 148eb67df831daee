use Rattle.std.proofs.Common.{subst}
use Rattle.urlpattern_ffi.specs.WholeTexts.{IsSameReported}
use Rattle.urlpattern_c.proofs.whole_exports.urlpattern_is_same_within.Goals as goal

pub returns-clause-answer : goal.returns-clause-answer
returns-clause-answer c =
    let reported = subst (λ patterns. IsSameReported patterns c.args.index patterns c.args.other c.is_same-status.result) c.take-kept.ensures.taken c.is_same-status.ensures in
    (c.is_same-status.result, c.number.ensures, reported)
