use Rattle.std.proofs.Common.{inl, inr, sym}
use Rattle.urlpattern_ffi.specs.KeptPatterns.{boxed_patterns}
use Rattle.urlpattern_ffi.proofs.WholeTextLemmas.{same_reported}
use Rattle.urlpattern_ffi.proofs.whole_texts.is_same.Goals as goal

pub returns-in-None : goal.returns-in-None
returns-in-None c = inl (sym c.in-None.ensures)

pub returns-in-None-pattern_at : goal.returns-in-None-pattern_at
returns-in-None-pattern_at c = inr (sym c.in-None-pattern_at.ensures)

pub returns : goal.returns
returns c =
    same_reported (boxed_patterns c.args.kept.now) c.args.index (boxed_patterns c.args.others.now) c.args.other c.in-Some.pattern.now c.in-Some-pattern_at.compared.now
    c.are_same.result (sym c.in-Some.ensures) (sym c.in-Some-pattern_at.ensures) c.are_same.ensures
