use Rattle.std.proofs.Common.{◌≡◌, ℕ, List, ◌∷◌, ◌++◌, length}
use denote.Text.{Utf8}
use denote.Shadow.{shadow}
use Rattle.std.specs.Str.{chars}
use Rattle.urlpattern_steps.specs.Walk.{AreCopiesOf, in_turn, literals}
use Rattle.urlpattern_steps.proofs.repeats.skip_copies.Given as goal

abbrev pub invariant-loop-remaining : goal.invariant-loop-remaining
invariant-loop-remaining l = record {
  is_text : shadow (Utf8 l.rest);
  front : (copies : List (List ℕ)) × (chars l.text ≡ in_turn copies ++ chars l.rest) × AreCopiesOf l.ignore_case (l.first ∷ literals l.literal) copies;
}

abbrev pub decreases-loop-remaining : goal.decreases-loop-remaining
decreases-loop-remaining l = length l.rest
