use Rattle.std.specs.Str.{chars}
use Rattle.urlpattern_steps.proofs.StepTokenLemmas.{greedy_dot, lazy_dot}
use Rattle.urlpattern_steps.proofs.step_tokens.read_repeated_dot.Goals as goal

pub returns-in-Some-clause-step : goal.returns-in-Some-clause-step
returns-in-Some-clause-step c = greedy_dot (chars c.args.text.now) (chars c.in-Some.rest.now) c.in-Some.ensures.cut

pub returns-in_ok-after_lazy_plus-in-None-clause-step :
    goal.returns-in_ok-after_lazy_plus-in-None-clause-step
returns-in_ok-after_lazy_plus-in-None-clause-step c =
    lazy_dot (chars c.args.text.now) (chars c.in_ok-after_lazy_plus-in-None.field-0.now) c.in_ok-after_lazy_plus-in-None.ensures.cut
