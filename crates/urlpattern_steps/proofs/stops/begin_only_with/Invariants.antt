use Rattle.std.proofs.Common.{length}
use Rattle.urlpattern_steps.specs.Walk.{BeginOnlyWith}
use Rattle.urlpattern_steps.proofs.stops.begin_only_with.Given as goal

abbrev pub invariant-loop-step : goal.invariant-loop-step
invariant-loop-step l = BeginOnlyWith l.end l.rest → BeginOnlyWith l.end l.steps

abbrev pub decreases-loop-step : goal.decreases-loop-step
decreases-loop-step l = length l.rest
