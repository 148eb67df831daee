use Rattle.std.proofs.Common.{refl}
use Rattle.urlpattern_policy.proofs.DecisionLemmas.{at_false, at_true}
use Rattle.urlpattern_policy_differences.proofs.comparing.automata.opening.Goals as goal

pub returns-then-options : goal.returns-then-options
returns-then-options c = (
  c.new-automata.result,
  record { patterns = c.new-automata.ensures.patterns; effects = c.new-automata.ensures.effects; default = c.new-automata.ensures.default },
  at_true _ _ _ c.if-options.true c.in_ok-deny_credentials.ensures.denied,
)

pub returns : goal.returns
returns c = (
  c.new-automata.result,
  record { patterns = c.new-automata.ensures.patterns; effects = c.new-automata.ensures.effects; default = c.new-automata.ensures.default },
  at_false _ _ _ c.if-options.false refl,
)
