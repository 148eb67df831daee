use Rattle.std.proofs.Common.{subst}
use Rattle.urlpattern_ffi.specs.Calls.{IsFirstReported}
use Rattle.urlpattern_c.proofs.exports.urlpattern_first.Goals as goal

pub returns-clause-answer : goal.returns-clause-answer
returns-clause-answer c =
    let reported = subst (λ patterns. IsFirstReported patterns c.args.url.now c.args.base.now c.args.index.now c.first-status.new.index c.first-status.result)
    c.take-kept.ensures.taken c.first-status.ensures in
    (c.first-status.result, c.number.ensures, reported)
