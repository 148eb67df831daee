use Rattle.std.proofs.Common.{Ok, false, take}
use Rattle.urlpattern_diagnosis.specs.Faults.{EachExpression}
use Rattle.urlpattern_diagnosis.proofs.rejected_parts.rejected_expression.Given as goal

-- The callback accepts each expression so far.
abbrev pub invariant-loop-token : goal.invariant-loop-token
invariant-loop-token g l = EachExpression (λ value. g.F.Fn.post l.refuses (value, tt) (Ok false)) (take l.token-index l.tokens)
