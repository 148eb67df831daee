use Rattle.std.proofs.Common.{◌∙◌, refl, sym}
use Rattle.urlpattern_policy.proofs.DecisionLemmas.{at_false, at_true}
use Rattle.urlpattern_policy_differences.proofs.comparing.push_if_never.Goals as goal

pub returns-then-is_never : goal.returns-then-is_never
returns-then-is_never c = at_true _ _ _ (sym c.is_never.ensures ∙ c.if-is_never.true) c.in_ok-push.ensures.items

pub returns : goal.returns
returns c = at_false _ _ _ (sym c.is_never.ensures ∙ c.if-is_never.false) refl
