use Rattle.std.proofs.Common.{length}
use Rattle.urlpattern_engine.proofs.strategy.backtracking.Given as goal

abbrev pub decreases-loop-step : goal.decreases-loop-step
decreases-loop-step l = length l.rest
