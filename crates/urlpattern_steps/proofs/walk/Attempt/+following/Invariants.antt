use Rattle.std.proofs.Common.{◌≡◌, ℕ, List, [], ◌∷◌, ◌++◌, ◌+◌, ◌*◌, ◌≤◌, length}
use denote.Text.{Utf8}
use denote.Shadow.{shadow}
use Rattle.std.specs.Str.{chars}
use Rattle.urlpattern_syntax.specs.Text.{line_feed}
use Rattle.urlpattern_steps.specs.declared.step.Step.TheVariants.{GreedyRun}
use Rattle.urlpattern_steps.specs.Walk.{AreCopiesOf, captured_prefix, in_turn, literal_text, literals, longest, shortest, up_to_first, walk, walk_copies}
use Rattle.urlpattern_steps.specs.AddedCaptures.{Untouched}
use Rattle.urlpattern_steps.proofs.AttemptLemmas.{Leaves, Tries}
use Rattle.urlpattern_steps.proofs.CopyLemmas.{led}
use Rattle.urlpattern_steps.proofs.EndLemmas.{IsTable}
use Rattle.urlpattern_steps.proofs.FallingLemmas.{falling}
use Rattle.urlpattern_steps.proofs.LongestLemmas.{at_least}
use Rattle.urlpattern_steps.proofs.walk.Attempt.+following.Given as goal

-- ---- the measure of each call: the remaining steps, then the calls that pass them on

abbrev pub decreases-match_in_turn : goal.decreases-match_in_turn
decreases-match_in_turn l = 10 * length l.steps.now

abbrev pub decreases-match_rest : goal.decreases-match_rest
decreases-match_rest l = 10 * length l.steps.now + 1

abbrev pub decreases-match_after_capture : goal.decreases-match_after_capture
decreases-match_after_capture l = 10 * length l.steps.now + 2

abbrev pub decreases-match_optional_group : goal.decreases-match_optional_group
decreases-match_optional_group l = 10 * length l.others.now + 3

abbrev pub decreases-match_shortest_run : goal.decreases-match_shortest_run
decreases-match_shortest_run l = 10 * length l.others.now + 3

abbrev pub decreases-match_longest_run : goal.decreases-match_longest_run
decreases-match_longest_run l = 10 * length l.others.now + 3

abbrev pub decreases-match_greedy_run : goal.decreases-match_greedy_run
decreases-match_greedy_run l = 10 * length l.steps.now + 3

abbrev pub decreases-match_any_copies : goal.decreases-match_any_copies
decreases-match_any_copies l = 10 * length l.others.now + 2

abbrev pub decreases-match_copies : goal.decreases-match_copies
decreases-match_copies l = 10 * length l.steps.now + 3

abbrev pub decreases-end_here : goal.decreases-end_here
decreases-end_here l = 10 * length l.steps.now + 2

abbrev pub decreases-end_of_segments : goal.decreases-end_of_segments
decreases-end_of_segments l = 10 * length l.others.now + 3

abbrev pub decreases-match_segments : goal.decreases-match_segments
decreases-match_segments l = 10 * length l.steps.now + 4

abbrev pub decreases-match_memoized : goal.decreases-match_memoized
decreases-match_memoized l = 10 * length l.others.now + 6

abbrev pub decreases-match_first_step : goal.decreases-match_first_step
decreases-match_first_step l = 10 * length l.others.now + 5

-- ---- loop invariants

abbrev pub invariant-match_in_turn-loop-step : goal.invariant-match_in_turn-loop-step
invariant-match_in_turn-loop-step l = record {
  is_text : shadow (Utf8 l.rest);
  shorter : length l.left ≤ length l.fn.steps;
  leaves : Leaves l.ignore_case l.fn.self l.self l.fn.steps l.left (chars l.fn.text) (chars l.rest);
}

abbrev pub decreases-match_in_turn-loop-step : goal.decreases-match_in_turn-loop-step
decreases-match_in_turn-loop-step l = length l.left

abbrev pub invariant-match_shortest_run-loop-remaining : goal.invariant-match_shortest_run-loop-remaining
invariant-match_shortest_run-loop-remaining l = record {
  is_text : shadow (Utf8 l.rest);
  so_far : (front : List ℕ) × (chars l.text ≡ front ++ chars l.rest)
      × (walk l.ignore_case l.steps (chars l.text) ≡ shortest l.ignore_case l.end (captured_prefix (walk l.ignore_case l.others)) front (chars l.rest));
  before : Untouched l.fn.self l.self;
}

abbrev pub decreases-match_shortest_run-loop-remaining : goal.decreases-match_shortest_run-loop-remaining
decreases-match_shortest_run-loop-remaining l = length l.rest

abbrev pub invariant-match_longest_run-loop-self : goal.invariant-match_longest_run-loop-self
invariant-match_longest_run-loop-self l =
    Tries l.fn.self l.self l.text l.front
    (λ rest. (up_to_first l.ignore_case line_feed (chars l.front) ≡ chars l.front)
    × (longest l.ignore_case line_feed (captured_prefix (walk l.ignore_case l.others)) (chars l.front) rest ≡ captured_prefix (walk l.ignore_case l.others) (chars l.front) rest))

abbrev pub decreases-match_longest_run-loop-self : goal.decreases-match_longest_run-loop-self
decreases-match_longest_run-loop-self l = length l.front

abbrev pub invariant-match_greedy_run-loop-shorter : goal.invariant-match_greedy_run-loop-shorter
invariant-match_greedy_run-loop-shorter l =
    Tries l.fn.self l.self l.text l.front
    (λ rest. walk l.ignore_case (GreedyRun l.run ∷ l.steps) (chars l.text) ≡ falling (at_least l.run.may_be_empty (captured_prefix (walk l.ignore_case l.steps))) [] (chars l.front) rest)

abbrev pub decreases-match_greedy_run-loop-shorter : goal.decreases-match_greedy_run-loop-shorter
decreases-match_greedy_run-loop-shorter l = length l.front

abbrev pub invariant-match_any_copies-loop-shorter : goal.invariant-match_any_copies-loop-shorter
invariant-match_any_copies-loop-shorter l =
    Tries l.fn.self l.self l.text l.front
    (λ rest. (copies : List (List ℕ)) × (chars l.front ≡ in_turn copies) × AreCopiesOf l.ignore_case (literal_text l.fn.first l.literal) copies
    × (walk_copies l.ignore_case l.fn.first l.literal l.others (chars l.text) ≡ led (walk l.ignore_case l.others) copies rest (walk l.ignore_case l.others rest)))

abbrev pub decreases-match_any_copies-loop-shorter : goal.decreases-match_any_copies-loop-shorter
decreases-match_any_copies-loop-shorter l = length l.front

abbrev pub invariant-end_of_segments-loop-begun : goal.invariant-end_of_segments-loop-begun
invariant-end_of_segments-loop-begun l =
    Tries l.fn.self l.self l.text l.front
    (λ rest. IsTable l.ignore_case l.segments.separator.first (literals l.literal) l.segments.is_greedy l.segments.end (captured_prefix (walk l.ignore_case l.others)) l.text (chars l.front) rest l.begun.items l.later)

abbrev pub decreases-end_of_segments-loop-begun : goal.decreases-end_of_segments-loop-begun
decreases-end_of_segments-loop-begun l = length l.front
