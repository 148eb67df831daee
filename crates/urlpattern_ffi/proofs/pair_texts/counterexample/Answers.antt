use Rattle.std.proofs.Common.{inl, inr, refl, sym}
use Rattle.urlpattern_compare.specs.Comparing.{IsCovered}
use Rattle.urlpattern_ffi.proofs.PairTextLemmas.{pair_reported}
use Rattle.urlpattern_ffi.specs.KeptPatterns.{boxed_patterns}
use Rattle.urlpattern_ffi.specs.PairTexts.{IsCounterexample, IsCoveringUnknown}
use Rattle.urlpattern_ffi.proofs.pair_texts.counterexample.Goals as goal

pub returns-in-None : goal.returns-in-None
returns-in-None c = (inl (sym c.in-None.ensures), refl)

pub returns-in-None-pattern_at : goal.returns-in-None-pattern_at
returns-in-None-pattern_at c = (inr (sym c.in-None-pattern_at.ensures), refl)

pub returns : goal.returns
returns c =
    pair_reported IsCounterexample IsCovered IsCoveringUnknown c.in-Some.pattern.now c.in-Some-pattern_at.other.now
    (boxed_patterns c.args.kept.now) c.args.index (boxed_patterns c.args.others.now) c.args.asked c.args.buffer.now c.write_parting.new.buffer c.write_parting.new.needed c.write_parting.result
    (sym c.in-Some.ensures) (sym c.in-Some-pattern_at.ensures) c.write_parting.ensures
