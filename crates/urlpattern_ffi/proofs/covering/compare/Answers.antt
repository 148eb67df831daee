use Rattle.std.proofs.Common.{inl, inr}
use Rattle.urlpattern_ffi.proofs.CoveringLemmas.{of_both}
use Rattle.urlpattern_ffi.specs.ReportedCoverings.{HasPartingIn, IsUnknownIn}
use Rattle.urlpattern_ffi.specs.Mismatches.{component_number}
use Rattle.urlpattern_compare.specs.Comparing.{IsParting, IsReasonIn}
use Rattle.urlpattern_ffi.proofs.covering.compare.Goals as goal

pub returns-in-Ok-Covered : goal.returns-in-Ok-Covered
returns-in-Ok-Covered c = (c.requires, rw c.in-Ok-Covered.field-0-is at c.in-Ok-Covered.ensures.covering)

pub returns-in-Ok-NotCovered : goal.returns-in-Ok-NotCovered
returns-in-Ok-NotCovered c =
    let parting = c.in-Ok-NotCovered.parting in
    of_both c.args.pattern.now c.args.asked.now (λ parts others. IsParting parts others parting) (HasPartingIn c.component_number.result)
    (λ parts others parts_them. (parting, parts_them, c.component_number.ensures.number)) (rw c.in-Ok-NotCovered.field-0-is at c.in-Ok-NotCovered.ensures.covering)

pub returns-in-Ok-Unknown : goal.returns-in-Ok-Unknown
returns-in-Ok-Unknown c =
    let name = c.in-Ok-Unknown.name in
    let reason = c.in-Ok-Unknown.field-0-1 in
    inl (of_both c.args.pattern.now c.args.asked.now (λ parts others. IsReasonIn parts others name reason) (IsUnknownIn c.component_number-in-Ok-Unknown.result)
    (λ parts others why. (name, reason, why, c.component_number-in-Ok-Unknown.ensures.number)) (rw c.in-Ok-Unknown.field-0-is at c.in-Ok-Unknown.ensures.covering))

pub returns-in-Err-NoParts : goal.returns-in-Err-NoParts
returns-in-Err-NoParts c = inr (c.requires, rw c.in-Err-NoParts.field-0-is at c.in-Err-NoParts.ensures.missing)
