use Rattle.std.proofs.Common.{subst}
use Rattle.urlpattern_compare.specs.Comparing.{IsExample, IsReasonAlone}
use Rattle.urlpattern_compare.proofs.pattern_parts.PatternParts.example.Goals as goal

pub returns-in-Unknown : goal.returns-in-Unknown
returns-in-Unknown c = (
  c.in-Unknown.field-0,
  subst (λ o. IsReasonAlone o c.in-Unknown.field-0) c.get.ensures (subst (IsExample c.get.result.now) c.in-Unknown.is c.in_ok-text.ensures),
)
