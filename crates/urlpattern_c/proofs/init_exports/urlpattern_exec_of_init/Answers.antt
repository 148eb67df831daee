use Rattle.std.proofs.Common.{subst}
use Rattle.urlpattern_ffi.specs.InitMatches.{IsInitExecReported}
use Rattle.urlpattern_c.proofs.init_exports.urlpattern_exec_of_init.Goals as goal

pub returns-clause-answer : goal.returns-clause-answer
returns-clause-answer c =
    let written = subst (λ patterns. IsInitExecReported patterns c.args.index c.args.json.now c.args.buffer.now c.execute_init-status.new.buffer c.execute_init-status.new.needed c.execute_init-status.result)
    c.take-kept.ensures.taken c.execute_init-status.ensures in
    (c.execute_init-status.result, c.number.ensures, written)
