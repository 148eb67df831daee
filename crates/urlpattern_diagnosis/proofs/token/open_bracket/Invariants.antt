use Rattle.std.proofs.Common.{◌≡◌, ◌≤◌, length, drop, false}
use Rattle.std.specs.List.{list_any}
use Rattle.urlpattern_diagnosis.specs.Faults.{is_bracket}
use Rattle.urlpattern_diagnosis.proofs.token.open_bracket.Given as goal

-- No bracket is at or after the place.
abbrev pub invariant-loop-place : goal.invariant-loop-place
invariant-loop-place l = record {
  within : l.place ≤ length l.bytes;
  after : list_any is_bracket (drop l.place l.bytes) ≡ false;
}

abbrev pub decreases-loop-place : goal.decreases-loop-place
decreases-loop-place l = l.place
