use Rattle.std.proofs.Common.{sym}
use Rattle.urlpattern_ffi.specs.KeptPatterns.{boxed_patterns}
use Rattle.urlpattern_ffi.proofs.CallLemmas.{tested}
use Rattle.urlpattern_ffi.proofs.exec_calls.test.Goals as goal

pub returns-in-Some : goal.returns-in-Some
returns-in-Some c =
    tested (boxed_patterns c.args.kept.now) c.args.index c.in-Some.pattern.now c.args.url.now c.args.base.now c.test_pattern.result
    (sym c.in-Some.ensures) c.test_pattern.ensures
