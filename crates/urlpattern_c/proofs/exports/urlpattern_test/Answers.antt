use Rattle.std.proofs.Common.{subst}
use Rattle.urlpattern_ffi.specs.Calls.{IsTested}
use Rattle.urlpattern_c.proofs.exports.urlpattern_test.Goals as goal

pub returns-clause-answer : goal.returns-clause-answer
returns-clause-answer c =
    let tested = subst (λ patterns. IsTested patterns c.args.index c.args.url.now c.args.base.now c.test-status.result) c.take-kept.ensures.taken c.test-status.ensures in
    (c.test-status.result, c.number.ensures, tested)
