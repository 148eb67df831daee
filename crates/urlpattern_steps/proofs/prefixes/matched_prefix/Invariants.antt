use Rattle.std.proofs.Common.{length}
use denote.Text.{Utf8}
use denote.Shadow.{shadow}
use Rattle.std.specs.Str.{chars}
use Rattle.urlpattern_steps.proofs.AttemptLemmas.{IsCut}
use Rattle.urlpattern_steps.proofs.PlaceLemmas.{IsSoFar}
use Rattle.urlpattern_steps.proofs.prefixes.matched_prefix.Given as goal

abbrev pub invariant-loop-row : goal.invariant-loop-row
invariant-loop-row l = record {
  is_text : shadow (Utf8 l.front);
  so_far : IsCut l.text l.front (λ rest. IsSoFar l.ignore_case l.step l.others l.text (chars l.front) rest l.begun.items l.row.items l.later);
}

abbrev pub decreases-loop-row : goal.decreases-loop-row
decreases-loop-row l = length l.front
