use Rattle.std.proofs.Common.{inl, inr, refl, sym}
use Rattle.urlpattern_ffi.specs.KeptPatterns.{boxed_patterns}
use Rattle.urlpattern_ffi_tables.proofs.ReasonLemmas.{reason_reported}
use Rattle.urlpattern_ffi_tables.proofs.covering_reasons.covering_reason.Goals as goal

pub returns-in-None : goal.returns-in-None
returns-in-None c = (inl (sym c.in-None.ensures), refl)

pub returns-in-None-pattern_at : goal.returns-in-None-pattern_at
returns-in-None-pattern_at c = (inr (sym c.in-None-pattern_at.ensures), refl)

pub returns : goal.returns
returns c =
    reason_reported (boxed_patterns c.args.kept.now) c.args.index (boxed_patterns c.args.others.now) c.args.asked c.in-Some.pattern.now c.in-Some-pattern_at.other.now
    c.args.reason.now c.find_reason.new.reason c.find_reason.result (sym c.in-Some.ensures) (sym c.in-Some-pattern_at.ensures) c.find_reason.ensures
