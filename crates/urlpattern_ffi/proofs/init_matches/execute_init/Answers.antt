use Rattle.std.proofs.Common.{sym}
use Rattle.urlpattern_ffi.specs.KeptPatterns.{boxed_patterns}
use Rattle.urlpattern_ffi.proofs.InitMatchLemmas.{init_executed}
use Rattle.urlpattern_ffi.proofs.init_matches.execute_init.Goals as goal

pub returns-in-Some : goal.returns-in-Some
returns-in-Some c =
    init_executed (boxed_patterns c.args.kept.now) c.args.index c.in-Some.pattern.now c.args.json.now c.args.buffer.now
    c.execute_pattern.new.buffer c.execute_pattern.new.needed c.execute_pattern.result (sym c.in-Some.ensures) c.execute_pattern.ensures
