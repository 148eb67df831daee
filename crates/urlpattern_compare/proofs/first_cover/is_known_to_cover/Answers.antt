use Rattle.std.proofs.Common.{inl, inr, subst}
use Rattle.urlpattern_compare.specs.Comparing.{IsPatternCovering}
use Rattle.urlpattern_compare.proofs.first_cover.is_known_to_cover.Goals as goal

pub returns-in-NotCovered : goal.returns-in-NotCovered
returns-in-NotCovered c =
    inl (c.in-NotCovered.parting, subst (IsPatternCovering c.args.pattern.now c.args.asked.now) c.in-NotCovered.is c.in_ok-covering.ensures)

pub returns-in-Unknown : goal.returns-in-Unknown
returns-in-Unknown c =
    inr (c.in-Unknown.field-0, c.in-Unknown.field-1, subst (IsPatternCovering c.args.pattern.now c.args.asked.now) c.in-Unknown.is c.in_ok-covering.ensures)
