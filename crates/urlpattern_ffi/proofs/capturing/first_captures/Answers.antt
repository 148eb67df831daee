use Rattle.std.proofs.Common.{subst, sym}
use Rattle.std.specs.Arc.{arc_value}
use Rattle.urlpattern_ffi.specs.KeptPatterns.{PatternList, boxed_patterns}
use Rattle.urlpattern_ffi.specs.GroupSpans.{AreFirstCaptures}
use Rattle.urlpattern_ffi.specs.declared.pattern_box.PatternBox.{PatternBox}
use Rattle.urlpattern_ffi.proofs.capturing.first_captures.Goals as goal

pub returns-in-Some : goal.returns-in-Some
returns-in-Some c =
    let Reports = λ (patterns : PatternList). AreFirstCaptures patterns c.args.url.now c.args.base.now c.args.index.now c.list_captures.new.index
    c.args.buffer.now c.list_captures.new.buffer c.args.spans.now c.list_captures.new.spans c.list_captures.new.needed c.list_captures.result in
    subst (λ kept. Reports (boxed_patterns kept)) (sym c.in-Some.is)
    (subst (λ (kept : PatternBox). Reports (arc_value kept.list)) c.deref.ensures (subst Reports c.deref-in-Some.ensures c.list_captures.ensures))
