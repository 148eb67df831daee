use Rattle.std.proofs.Common.{◌≡◌, None, length}
use denote.Text.{Utf8}
use denote.Shadow.{shadow}
use Rattle.std.specs.Str.{chars}
use Rattle.urlpattern_steps.specs.FailedStates.{IsStateOf}
use Rattle.urlpattern_steps.specs.Walk.{walk}
use Rattle.urlpattern_steps.proofs.run_ends.memoize_run.Given as goal

abbrev pub invariant-loop-remaining : goal.invariant-loop-remaining
invariant-loop-remaining l = record {
  is_text : shadow (Utf8 l.rest);
  place : IsStateOf l.ignore_case l.failed l.steps (chars l.rest);
  dead : walk l.ignore_case l.steps (chars l.rest) ≡ None;
  whole : l.failed ≡ l.fn.failed;
}

abbrev pub decreases-loop-remaining : goal.decreases-loop-remaining
decreases-loop-remaining l = length l.rest
