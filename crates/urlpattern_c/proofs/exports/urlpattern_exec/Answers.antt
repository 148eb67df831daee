use Rattle.std.proofs.Common.{subst}
use Rattle.urlpattern_ffi.specs.TextBuffers.{IsExecReported}
use Rattle.urlpattern_c.proofs.exports.urlpattern_exec.Goals as goal

pub returns-clause-answer : goal.returns-clause-answer
returns-clause-answer c =
    let reported = subst (λ patterns. IsExecReported patterns c.args.index c.args.url.now c.args.base.now c.args.buffer.now c.execute-status.new.buffer c.execute-status.new.needed c.execute-status.result)
    c.take-kept.ensures.taken c.execute-status.ensures in
    (c.execute-status.result, c.number.ensures, reported)
