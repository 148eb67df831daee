use Rattle.std.proofs.Common.{inl, inr, refl}
use Rattle.urlpattern_compare.specs.Comparing.{IsCovered, IsParting, IsReasonIn}
use Rattle.urlpattern_ffi.proofs.CoveringLemmas.{of_both}
use Rattle.urlpattern_ffi_tables.specs.CoveringReasons.{IsKnown, IsUnknownFor}
use Rattle.urlpattern_ffi_tables.proofs.covering_reasons.find_reason.Goals as goal

pub returns-in-Ok-Covered : goal.returns-in-Ok-Covered
returns-in-Ok-Covered c =
    (of_both c.args.pattern.now c.args.asked.now IsCovered IsKnown (λ parts others covered. inl covered) (rw c.in-Ok-Covered.field-0-is at c.in-Ok-Covered.ensures.covering), refl)

pub returns-in-Ok-NotCovered : goal.returns-in-Ok-NotCovered
returns-in-Ok-NotCovered c =
    let parting = c.in-Ok-NotCovered.field-0-0 in
    (of_both c.args.pattern.now c.args.asked.now (λ parts others. IsParting parts others parting) IsKnown (λ parts others parts_them. inr (parting, parts_them)) (rw c.in-Ok-NotCovered.field-0-is at c.in-Ok-NotCovered.ensures.covering), refl)

pub returns-in-Ok-Unknown : goal.returns-in-Ok-Unknown
returns-in-Ok-Unknown c =
    let name = c.in-Ok-Unknown.field-0-0 in
    let reason = c.in-Ok-Unknown.why in
    inl (of_both c.args.pattern.now c.args.asked.now (λ parts others. IsReasonIn parts others name reason) (IsUnknownFor c.reason_number.result)
    (λ parts others why. (name, reason, why, c.reason_number.ensures)) (rw c.in-Ok-Unknown.field-0-is at c.in-Ok-Unknown.ensures.covering))

pub returns-in-Err-NoParts : goal.returns-in-Err-NoParts
returns-in-Err-NoParts c = inr (refl, rw c.in-Err-NoParts.field-0-is at c.in-Err-NoParts.ensures.missing)
