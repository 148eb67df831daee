use Rattle.std.proofs.Common.{refl}
use Rattle.urlpattern_steps.specs.ReadSteps.{quantifier_of}
use Rattle.urlpattern_steps.proofs.StepTokenLemmas.{runs_allowed}
use Rattle.urlpattern_steps.proofs.step_tokens.repeated_run.Goals as goal

pub returns-clause-step : goal.returns-clause-step
returns-clause-step c = λ items is.
    let one = c.in_ok-end.ensures.run items is in
    let quantifier = quantifier_of c.args.times in (
      runs_allowed c.in_ok-end.end c.in_ok-end.is_greedy items quantifier c.in_ok-may_be_empty.may_be_empty one c.in_ok-may_be_empty.ensures.may,
      (items, c.in_ok-end.is_greedy, quantifier, one, c.in_ok-may_be_empty.ensures.may, refl),
    )
