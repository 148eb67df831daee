use Rattle.std.proofs.Common.{◌-◌, ◌≤◌}
use Rattle.urlpattern_differences.proofs.shared.is_among.Given as goal

abbrev pub invariant-loop-place : goal.invariant-loop-place
invariant-loop-place l = 0 ≤ l.place

abbrev pub decreases-loop-place : goal.decreases-loop-place
decreases-loop-place l = l.end - l.place
