use Rattle.std.proofs.Common.{◌≡◌, ◌+◌, ◌≤◌, length}
use Rattle.urlpattern_steps.specs.Walk.{literals}
use Rattle.urlpattern_steps.proofs.repeats.literal_count.Given as goal

abbrev pub invariant-loop-step : goal.invariant-loop-step
invariant-loop-step l = record {
  so_far : l.count + length (literals l.left) ≡ length (literals l.literal);
  room : l.count + length l.left ≤ length l.literal;
}

abbrev pub decreases-loop-step : goal.decreases-loop-step
decreases-loop-step l = length l.left
