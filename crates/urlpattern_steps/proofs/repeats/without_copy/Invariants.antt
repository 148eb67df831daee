use Rattle.std.proofs.Common.{◌≡◌, ◌+◌, ◌<◌, ℕ, suc, List, ◌++◌, length}
use denote.Text.{Utf8}
use denote.Shadow.{shadow}
use Rattle.std.specs.Str.{chars, IsUtf8}
use Rattle.urlpattern_steps.specs.Walk.{literals}
use Rattle.urlpattern_steps.proofs.repeats.without_copy.Given as goal

abbrev pub invariant-loop-step : goal.invariant-loop-step
invariant-loop-step l = record {
  is_text : shadow (Utf8 l.front);
  so_far : (end : List ℕ) × IsUtf8 end × (l.text ≡ l.front ++ end) × (length (chars end) + length (literals l.left) ≡ suc (length (literals l.literal)));
  shorter : length l.front < length l.text;
}

abbrev pub decreases-loop-step : goal.decreases-loop-step
decreases-loop-step l = length l.left
