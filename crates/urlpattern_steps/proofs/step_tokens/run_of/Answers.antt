use Rattle.std.proofs.Common.{subst}
use Rattle.urlpattern_meaning.specs.Dialect.{Captured}
use Rattle.urlpattern_steps.specs.ReadSteps.{IsStepOf}
use Rattle.urlpattern_steps.proofs.StepTokenLemmas.{anything_run, segment_run}
use Rattle.urlpattern_steps.proofs.step_tokens.run_of.Goals as goal

pub returns-in-LazyRun-clause-run : goal.returns-in-LazyRun-clause-run
returns-in-LazyRun-clause-run c = λ items is. segment_run c.in-LazyRun.end items (subst (λ s. IsStepOf s (Captured items)) c.in-LazyRun.is is)

pub returns-in-DotStar-clause-run : goal.returns-in-DotStar-clause-run
returns-in-DotStar-clause-run c = λ items is. anything_run items (subst (λ s. IsStepOf s (Captured items)) c.in-DotStar.is is)
