use Rattle.std.proofs.Common.{◌<◌, ℕ, List, ◌∷◌, length}
use denote.Text.{Utf8}
use denote.Shadow.{shadow}
use Rattle.std.specs.Str.{chars}
use Rattle.urlpattern_steps.specs.Walk.{BeginsAs, literals}
use Rattle.urlpattern_steps.proofs.repeats.after_literals.Given as goal

abbrev pub invariant-loop-step : goal.invariant-loop-step
invariant-loop-step l = record {
  is_text : shadow (Utf8 l.rest);
  there : (end : List ℕ) → BeginsAs l.ignore_case (literals l.left) (chars l.rest) end → BeginsAs l.ignore_case (l.fn.first ∷ literals l.literal) (chars l.text) end;
  back : (end : List ℕ) → BeginsAs l.ignore_case (l.fn.first ∷ literals l.literal) (chars l.text) end → BeginsAs l.ignore_case (literals l.left) (chars l.rest) end;
  shorter : length l.rest < length l.text;
}

abbrev pub decreases-loop-step : goal.decreases-loop-step
decreases-loop-step l = length l.left
