use Rattle.std.proofs.Common.{◌≡◌, ℕ, List, ◌++◌, length}
use denote.Text.{Utf8}
use denote.Shadow.{shadow}
use Rattle.std.specs.Str.{chars}
use Rattle.urlpattern_steps.specs.Walk.{up_to_first}
use Rattle.urlpattern_syntax.specs.Text.{line_feed}
use Rattle.urlpattern_steps.proofs.run_ends.longest_prefix.Given as goal

abbrev pub invariant-loop-remaining : goal.invariant-loop-remaining
invariant-loop-remaining l = record {
  is_text : shadow (Utf8 l.rest);
  so_far : (front : List ℕ) × (chars l.text ≡ front ++ chars l.rest) × (up_to_first l.ignore_case line_feed front ≡ front);
}

abbrev pub decreases-loop-remaining : goal.decreases-loop-remaining
decreases-loop-remaining l = length l.rest
