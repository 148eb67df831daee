use Rattle.std.proofs.Common.{inl, inr, refl}
use Rattle.urlpattern_compare.specs.Comparing.{IsCovered, IsParting, IsReasonIn}
use Rattle.urlpattern_ffi.proofs.CoveringLemmas.{of_both}
use Rattle.urlpattern_ffi.proofs.PairTextLemmas.{examined}
use Rattle.urlpattern_ffi.specs.PairTexts.{IsCounterexample, IsCoveringUnknown}
use Rattle.urlpattern_ffi.proofs.pair_texts.write_parting.Goals as goal

pub returns-in-Ok-Covered : goal.returns-in-Ok-Covered
returns-in-Ok-Covered c = (rw c.in-Ok-Covered.field-0-is at c.in-Ok-Covered.ensures.covering, refl)

pub returns-in-Ok-NotCovered : goal.returns-in-Ok-NotCovered
returns-in-Ok-NotCovered c =
    let parting = c.in-Ok-NotCovered.parting in
    examined IsCounterexample IsCovered IsCoveringUnknown c.args.pattern.now c.args.asked.now parting.texts c.args.buffer.now c.write_texts.new.buffer c.write_texts.new.needed c.write_texts.result
    (of_both c.args.pattern.now c.args.asked.now (λ parts others. IsParting parts others parting) (λ parts others. IsCounterexample parts others parting.texts)
    (λ parts others parts_them. (parting, parts_them, refl)) (rw c.in-Ok-NotCovered.field-0-is at c.in-Ok-NotCovered.ensures.covering))
    c.write_texts.ensures

pub returns-in-Ok-Unknown : goal.returns-in-Ok-Unknown
returns-in-Ok-Unknown c =
    let name = c.in-Ok-Unknown.field-0-0 in
    let reason = c.in-Ok-Unknown.field-0-1 in (
      inl (of_both c.args.pattern.now c.args.asked.now (λ parts others. IsReasonIn parts others name reason) IsCoveringUnknown
          (λ parts others why. (name, reason, why)) (rw c.in-Ok-Unknown.field-0-is at c.in-Ok-Unknown.ensures.covering)),
      refl,
    )

pub returns-in-Err-NoParts : goal.returns-in-Err-NoParts
returns-in-Err-NoParts c = (inr (rw c.in-Err-NoParts.field-0-is at c.in-Err-NoParts.ensures.missing), refl)
