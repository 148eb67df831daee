use Rattle.std.proofs.Common.{length}
use Rattle.urlpattern_engine.proofs.strategy.leave_choices.Given as goal

abbrev pub decreases-loop-step : goal.decreases-loop-step
decreases-loop-step l = length l.rest
