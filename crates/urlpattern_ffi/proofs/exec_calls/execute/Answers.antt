use Rattle.std.proofs.Common.{sym}
use Rattle.urlpattern_ffi.specs.KeptPatterns.{boxed_patterns}
use Rattle.urlpattern_ffi.proofs.CallLemmas.{executed}
use Rattle.urlpattern_ffi.proofs.exec_calls.execute.Goals as goal

pub returns-in-Some : goal.returns-in-Some
returns-in-Some c =
    executed (boxed_patterns c.args.kept.now) c.args.index c.in-Some.pattern.now c.args.url.now c.args.base.now c.args.buffer.now
    c.execute_pattern.new.buffer c.execute_pattern.new.needed c.execute_pattern.result (sym c.in-Some.ensures) c.execute_pattern.ensures
