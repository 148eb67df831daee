use Rattle.std.proofs.Common.{◌≡◌, length}
use denote.Text.{Utf8}
use denote.Shadow.{shadow}
use Rattle.std.specs.Str.{chars}
use Rattle.urlpattern_steps.specs.FailedStates.{EndsWith}
use Rattle.urlpattern_steps.specs.Walk.{walk}
use Rattle.urlpattern_steps.specs.AddedCaptures.{with_captures}
use Rattle.urlpattern_steps.proofs.by_table.walk_by_table.Given as goal

abbrev pub invariant-loop-step : goal.invariant-loop-step
invariant-loop-step l = record {
  is_text : shadow (Utf8 l.rest);
  of_steps : EndsWith l.steps l.left;
  of_text : EndsWith (chars l.text) (chars l.rest);
  so_far : walk l.ignore_case l.steps (chars l.text) ≡ with_captures l.captures.items (walk l.ignore_case l.left (chars l.rest));
}

abbrev pub decreases-loop-step : goal.decreases-loop-step
decreases-loop-step l = length l.left
