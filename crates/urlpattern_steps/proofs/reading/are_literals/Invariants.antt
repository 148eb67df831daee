use Rattle.std.proofs.Common.{length}
use Rattle.std.specs.Prelude.{◌↔◌}
use Rattle.urlpattern_steps.specs.ReadSteps.{AreLiterals}
use Rattle.urlpattern_steps.proofs.reading.are_literals.Given as goal

abbrev pub invariant-loop-rest : goal.invariant-loop-rest
invariant-loop-rest l = AreLiterals l.rest ↔ AreLiterals l.steps

abbrev pub decreases-loop-rest : goal.decreases-loop-rest
decreases-loop-rest l = length l.rest
