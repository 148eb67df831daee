use Rattle.std.proofs.Common.{inl, inr, refl, sym}
use Rattle.urlpattern_ffi.proofs.PairTextLemmas.{pair_reported}
use Rattle.urlpattern_ffi.specs.KeptPatterns.{boxed_patterns}
use Rattle.urlpattern_ffi.specs.PairTexts.{AreApart, AreCommon, IsOverlapUnknown}
use Rattle.urlpattern_ffi.proofs.pair_texts.overlaps.Goals as goal

pub returns-in-None : goal.returns-in-None
returns-in-None c = (inl (sym c.in-None.ensures), refl)

pub returns-in-None-pattern_at : goal.returns-in-None-pattern_at
returns-in-None-pattern_at c = (inr (sym c.in-None-pattern_at.ensures), refl)

pub returns : goal.returns
returns c =
    pair_reported AreCommon AreApart IsOverlapUnknown c.in-Some.pattern.now c.in-Some-pattern_at.compared.now
    (boxed_patterns c.args.kept.now) c.args.index (boxed_patterns c.args.others.now) c.args.other c.args.buffer.now c.write_common.new.buffer c.write_common.new.needed c.write_common.result
    (sym c.in-Some.ensures) (sym c.in-Some-pattern_at.ensures) c.write_common.ensures
