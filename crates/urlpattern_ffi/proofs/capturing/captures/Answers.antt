use Rattle.std.proofs.Common.{sym}
use Rattle.urlpattern_ffi.specs.KeptPatterns.{boxed_patterns}
use Rattle.urlpattern_ffi.proofs.SpanLemmas.{captured}
use Rattle.urlpattern_ffi.proofs.capturing.captures.Goals as goal

pub returns-in-Some : goal.returns-in-Some
returns-in-Some c =
    captured (boxed_patterns c.args.kept.now) c.args.index c.in-Some.pattern.now c.args.url.now c.args.base.now c.args.buffer.now c.pattern_captures.new.buffer
    c.args.spans.now c.pattern_captures.new.spans c.pattern_captures.new.needed c.pattern_captures.result (sym c.in-Some.ensures) c.pattern_captures.ensures
