use Rattle.std.proofs.Common.{sym}
use Rattle.urlpattern_ffi.specs.KeptPatterns.{boxed_patterns}
use Rattle.urlpattern_ffi.proofs.CallLemmas.{mismatched}
use Rattle.urlpattern_ffi.proofs.mismatching.mismatch.Goals as goal

pub returns-in-Some : goal.returns-in-Some
returns-in-Some c =
    mismatched (boxed_patterns c.args.kept.now) c.args.index c.in-Some.pattern.now c.args.url.now c.args.base.now c.pattern_mismatch.new.component c.pattern_mismatch.result
    (sym c.in-Some.ensures) c.pattern_mismatch.ensures
