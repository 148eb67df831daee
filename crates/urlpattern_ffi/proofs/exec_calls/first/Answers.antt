use Rattle.std.proofs.Common.{subst, sym}
use Rattle.std.specs.Arc.{arc_value}
use Rattle.urlpattern_ffi.specs.Calls.{IsFirstReported}
use Rattle.urlpattern_ffi.specs.KeptPatterns.{PatternList, boxed_patterns}
use Rattle.urlpattern_ffi.specs.declared.pattern_box.PatternBox.{PatternBox}
use Rattle.urlpattern_ffi.proofs.exec_calls.first.Goals as goal

pub returns-in-Some : goal.returns-in-Some
returns-in-Some c =
    let Reports = λ (patterns : PatternList). IsFirstReported patterns c.args.url.now c.args.base.now c.args.index.now c.first_in.new.index c.first_in.result in
    subst (λ kept. Reports (boxed_patterns kept)) (sym c.in-Some.is)
    (subst (λ (kept : PatternBox). Reports (arc_value kept.list)) c.deref.ensures (subst Reports c.deref-in-Some.ensures c.first_in.ensures))
