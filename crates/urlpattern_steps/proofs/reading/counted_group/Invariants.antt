use Rattle.std.proofs.Common.{◌≡◌, ◌+◌, ◌≤◌, length}
use Rattle.urlpattern_steps.specs.Walk.{capture_count}
use Rattle.urlpattern_steps.proofs.reading.counted_group.Given as goal

abbrev pub invariant-loop-rest : goal.invariant-loop-rest
invariant-loop-rest l = record {
  so_far : l.captures + capture_count l.rest ≡ capture_count l.steps;
  room : l.captures + length l.rest ≤ length l.steps;
}

abbrev pub decreases-loop-rest : goal.decreases-loop-rest
decreases-loop-rest l = length l.rest
