mod CopyAnswers
mod RunAnswers
mod SegmentAnswers
use Rattle.std.proofs.Common.{◌≡◌, ◌∷◌, [], false, length, refl, sym, ap, ◌∙◌, arith, rules}
use Rattle.std.proofs.lemmas.List.{nil_from_length}
use Rattle.std.specs.Str.{chars, IsUtf8}
use Rattle.urlpattern_syntax.proofs.TextLemmas.{chars-empty, chars-some}
use Rattle.urlpattern_syntax.specs.Text.{line_feed}
use Rattle.urlpattern_steps.specs.declared.step.Step.{Step}
use Rattle.urlpattern_steps.specs.declared.step.Step.TheVariants.{Literal, LazyRun, DotStar}
use Rattle.urlpattern_steps.specs.FailedStates.{EndsWith}
use Rattle.urlpattern_steps.specs.Walk.{captured_prefix, up_to_first, walk, BeginOnlyWith}
use Rattle.urlpattern_steps.proofs.AttemptLemmas.{call_follows_on, follows_missed, follows_on, leaves_captured, leaves_end, leaves_missed, leaves_passed, maybe_left, untouched-same}
use Rattle.urlpattern_steps.proofs.FirstLemmas.{passed_shorter, places}
use Rattle.urlpattern_steps.proofs.FollowLemmas.{plus, literal_other, literal_passed}
use Rattle.urlpattern_steps.proofs.SameLemmas.{begins_one}
use Rattle.urlpattern_steps.proofs.RunLemmas.{both_ends, longest_ends, shortest_ends, shortest_none}
use Rattle.urlpattern_steps.proofs.StepLemmas.{stop-gives}
use Rattle.urlpattern_steps.proofs.walk.Attempt.+following.Answers.RunAnswers as runs
use Rattle.urlpattern_steps.proofs.walk.Attempt.+following.Answers.CopyAnswers as copies
use Rattle.urlpattern_steps.proofs.walk.Attempt.+following.Answers.SegmentAnswers as segments
use Rattle.urlpattern_steps.proofs.walk.Attempt.+following.Goals as goal

-- ---- the first step

pub match_first_step-match_rest-requires : goal.match_first_step-match_rest-requires
match_first_step-match_rest-requires n c =
    let first : EndsWith c.args.steps.now c.args.others.now = (c.args.step.now ∷ [], c.requires.1.1.1) in
    let cut = c.in-Some.ensures.cut in
    let behind : EndsWith (chars c.args.text.now) (chars c.in-Some.rest.now) = (cut.0, cut.1) in
    search (rules, places, first, behind)

pub match_first_step-match_optional_group-requires : goal.match_first_step-match_optional_group-requires
match_first_step-match_optional_group-requires n c = search (rules, places)

pub match_first_step-match_greedy_run-requires : goal.match_first_step-match_greedy_run-requires
match_first_step-match_greedy_run-requires n c = search (rules, places)

pub match_first_step-match_copies-requires : goal.match_first_step-match_copies-requires
match_first_step-match_copies-requires n c = search (rules, places)

pub match_first_step-match_segments-requires : goal.match_first_step-match_segments-requires
match_first_step-match_segments-requires n c = search (rules, places)

pub match_first_step-returns-in-Some : goal.match_first_step-returns-in-Some
match_first_step-returns-in-Some n c =
    let others = c.args.others.now in
    let text = chars c.args.text.now in
    let rest = chars c.in-Some.rest.now in
    let d = c.in-Literal.c in
    let one = begins_one c.args.ignore_case d text rest c.in-Some.ensures.cut in
    let first : c.args.steps.now ≡ Literal d ∷ others = c.requires.1.1.1 ∙ ap (λ (s : Step). s ∷ others) c.in-Literal.is in
    call_follows_on c.args.self.now c.match_rest.new.self (walk c.args.ignore_case c.args.steps.now text) (walk c.args.ignore_case others rest) c.match_rest.result
    (ap (λ s. walk c.args.ignore_case s text) first ∙ literal_passed c.args.ignore_case d one.0 others text rest one.1 one.2) c.match_rest.ensures

pub match_first_step-returns-in-None : goal.match_first_step-returns-in-None
match_first_step-returns-in-None n c =
    let others = c.args.others.now in
    let text = chars c.args.text.now in
    let d = c.in-Literal.c in
    let first : c.args.steps.now ≡ Literal d ∷ others = c.requires.1.1.1 ∙ ap (λ (s : Step). s ∷ others) c.in-Literal.is in
    follows_on c.args.self.now c.args.self.now false _
    (follows_missed c.args.self.now c.args.self.now _ (untouched-same c.args.self.now)
    (ap (λ s. walk c.args.ignore_case s text) first ∙ literal_other c.args.ignore_case d others text c.in-None.ensures.other))

-- ---- an optional group

pub match_optional_group-match_in_turn-requires : goal.match_optional_group-match_in_turn-requires
match_optional_group-match_in_turn-requires n c = (
  omega (arith, passed_shorter c.args.group.steps c.args.others.now c.skip_steps.result.now c.skip_steps.ensures),
  search (rules, places, c.in_ok-match_rest.ensures.whole),
)

pub match_optional_group-returns : goal.match_optional_group-returns
match_optional_group-returns n c =
    maybe_left c.args.ignore_case c.args.self.now c.match_rest.new.self _ c.match_in_turn.new.self c.args.group c.args.others.now c.skip_steps.result.now (chars c.args.text.now) _ c.match_in_turn.result
    c.if-branch.false c.in_ok-match_rest.ensures c.in_ok-push_unmatched.ensures refl c.skip_steps.ensures c.match_in_turn.ensures

-- ---- the steps in turn

pub match_in_turn-loop-step-preserved-in-Literal-1 : goal.match_in_turn-loop-step-preserved-in-Literal-1
match_in_turn-loop-step-preserved-in-Literal-1 n c =
    let rest = chars c.loop-step.rest.now in
    let remaining = chars c.in-Some-after_same.remaining.now in
    let others = c.in-Some.others.now in
    let d = c.in-Literal.c in
    let one = begins_one c.args.ignore_case d rest remaining c.in-Some-after_same.ensures.cut in
    let left : c.loop-step.left.now ≡ Literal d ∷ others = c.in-Some.ensures.cases.0 ∙ ap (λ (s : Step). s ∷ others) c.in-Literal.is in
    record {
      is_text = search rules;
      shorter = omega (arith, c.in-Some.ensures.cases.1, c.loop-step.invariant.shorter);
      leaves = leaves_passed c.args.ignore_case _ _ _ _ _ _ c.loop-step.invariant.leaves c.loop-step.self (Literal d) others (one.0 ∷ []) remaining left one.1
          (ap (plus c.loop-step.self.captures.items) (literal_passed c.args.ignore_case d one.0 others rest remaining one.1 one.2)) ([], search rules) refl;
    }

pub match_in_turn-returns-in_default-after_same : goal.match_in_turn-returns-in_default-after_same
match_in_turn-returns-in_default-after_same n c =
    let rest = chars c.loop-step.rest.now in
    let others = c.in-Some.others.now in
    let d = c.in-Literal.c in
    let left : c.loop-step.left.now ≡ Literal d ∷ others = c.in-Some.ensures.cases.0 ∙ ap (λ (s : Step). s ∷ others) c.in-Literal.is in
    leaves_missed c.args.ignore_case _ _ _ _ _ _ c.loop-step.invariant.leaves
    (ap (λ l. walk c.args.ignore_case l rest) left ∙ literal_other c.args.ignore_case d others rest c.in_default-after_same.ensures.other)

pub match_in_turn-returns-then-is_empty : goal.match_in_turn-returns-then-is_empty
match_in_turn-returns-then-is_empty n c =
    let rest = chars c.loop-step.rest.now in
    let others = c.in-Some.others.now in
    let end = c.in-LazyRun.end in
    let left : c.loop-step.left.now ≡ LazyRun end ∷ others = c.in-Some.ensures.cases.0 ∙ ap (λ (s : Step). s ∷ others) c.in-LazyRun.is in
    let stops : BeginOnlyWith end others = c.has_one_end.ensures c.if-has_one_end.true in
    let empty : length c.split_at_first.result.0.now ≡ 0 = search rules in
    let front : up_to_first c.args.ignore_case end rest ≡ [] = sym c.split_at_first.ensures.front ∙ chars-empty c.split_at_first.result.0.now empty in
    leaves_missed c.args.ignore_case _ _ _ _ _ _ c.loop-step.invariant.leaves (ap (λ l. walk c.args.ignore_case l rest) left ∙ shortest_none c.args.ignore_case end (captured_prefix (walk c.args.ignore_case others)) (stop-gives c.args.ignore_case end others stops) rest front)

pub match_in_turn-loop-step-preserved-then-has_one_end : goal.match_in_turn-loop-step-preserved-then-has_one_end
match_in_turn-loop-step-preserved-then-has_one_end n c =
    let rest = chars c.loop-step.rest.now in
    let remaining = chars c.split_at_first.result.1.now in
    let others = c.in-Some.others.now in
    let end = c.in-LazyRun.end in
    let left : c.loop-step.left.now ≡ LazyRun end ∷ others = c.in-Some.ensures.cases.0 ∙ ap (λ (s : Step). s ∷ others) c.in-LazyRun.is in
    let stops : BeginOnlyWith end others = c.has_one_end.ensures c.if-has_one_end.true in
    let run = c.split_at_first.result.0 in
    let some : ¬ (length run.now ≡ 0) = search rules in
    let utf8 : IsUtf8 run.now = search rules in
    let front : ¬ (up_to_first c.args.ignore_case end rest ≡ []) = λ e. chars-some run.now utf8 some (c.split_at_first.ensures.front ∙ e) in
    record {
      is_text = search rules;
      shorter = omega (arith, c.in-Some.ensures.cases.1, c.loop-step.invariant.shorter);
      leaves = leaves_captured c.args.ignore_case _ _ _ _ _ _ c.loop-step.invariant.leaves _ (LazyRun end) others run remaining left
          (rw (c.split_at_first.ensures.front, c.split_at_first.ensures.rest) (sym (both_ends c.args.ignore_case end rest)))
          (rw (c.split_at_first.ensures.front, c.split_at_first.ensures.rest) (shortest_ends c.args.ignore_case end (captured_prefix (walk c.args.ignore_case others)) (stop-gives c.args.ignore_case end others stops) rest front))
          c.in_ok-push-in-LazyRun.ensures.items refl;
    }

pub match_in_turn-loop-step-preserved : goal.match_in_turn-loop-step-preserved
match_in_turn-loop-step-preserved n c =
    let rest = chars c.loop-step.rest.now in
    let others = c.in-Some.others.now in
    let left : c.loop-step.left.now ≡ DotStar ∷ others = c.in-Some.ensures.cases.0 ∙ ap (λ (s : Step). s ∷ others) c.in-DotStar.is in
    let stops : BeginOnlyWith line_feed others = search rules in
    let run = c.split_at_first-in-DotStar.result.0 in
    let remaining = chars c.split_at_first-in-DotStar.result.1.now in
    record {
      is_text = search rules;
      shorter = omega (arith, c.in-Some.ensures.cases.1, c.loop-step.invariant.shorter);
      leaves = leaves_captured c.args.ignore_case _ _ _ _ _ _ c.loop-step.invariant.leaves _ DotStar others run remaining left
          (rw (c.split_at_first-in-DotStar.ensures.front, c.split_at_first-in-DotStar.ensures.rest) (sym (both_ends c.args.ignore_case line_feed rest)))
          (rw (c.split_at_first-in-DotStar.ensures.front, c.split_at_first-in-DotStar.ensures.rest) (longest_ends c.args.ignore_case line_feed (captured_prefix (walk c.args.ignore_case others)) (stop-gives c.args.ignore_case line_feed others stops) rest))
          c.in_ok-push-in-DotStar.ensures.items refl;
    }

pub match_in_turn-returns : goal.match_in_turn-returns
match_in_turn-returns n c =
    let rest = c.loop-step.rest.now in
    let utf8 : IsUtf8 rest = search rules in
    leaves_end c.args.ignore_case _ _ _ _ _ _ c.loop-step.invariant.leaves c.is_empty-2.result (nil_from_length c.loop-step.left.now (search rules)) (λ e. chars-empty rest (search rules)) (λ e. chars-some rest utf8 (search rules))

-- ---- runs

pub match_longest_run-loop-self-init : goal.match_longest_run-loop-self-init
match_longest_run-loop-self-init = runs.match_longest_run-loop-self-init

pub match_longest_run-match_after_capture-requires : goal.match_longest_run-match_after_capture-requires
match_longest_run-match_after_capture-requires = runs.match_longest_run-match_after_capture-requires

pub match_longest_run-returns-then-branch : goal.match_longest_run-returns-then-branch
match_longest_run-returns-then-branch = runs.match_longest_run-returns-then-branch

pub match_longest_run-insert-requires : goal.match_longest_run-insert-requires
match_longest_run-insert-requires = runs.match_longest_run-insert-requires

pub match_longest_run-returns-in_default : goal.match_longest_run-returns-in_default
match_longest_run-returns-in_default = runs.match_longest_run-returns-in_default

pub match_longest_run-loop-self-preserved : goal.match_longest_run-loop-self-preserved
match_longest_run-loop-self-preserved = runs.match_longest_run-loop-self-preserved

pub match_shortest_run-next_of_run-requires : goal.match_shortest_run-next_of_run-requires
match_shortest_run-next_of_run-requires = runs.match_shortest_run-next_of_run-requires

pub match_shortest_run-before-requires : goal.match_shortest_run-before-requires
match_shortest_run-before-requires = runs.match_shortest_run-before-requires

pub match_shortest_run-match_after_capture-requires : goal.match_shortest_run-match_after_capture-requires
match_shortest_run-match_after_capture-requires = runs.match_shortest_run-match_after_capture-requires

pub match_shortest_run-returns-then-branch : goal.match_shortest_run-returns-then-branch
match_shortest_run-returns-then-branch = runs.match_shortest_run-returns-then-branch

pub match_shortest_run-loop-remaining-preserved : goal.match_shortest_run-loop-remaining-preserved
match_shortest_run-loop-remaining-preserved = runs.match_shortest_run-loop-remaining-preserved

pub match_shortest_run-memoize_run-requires-clause-dead : goal.match_shortest_run-memoize_run-requires-clause-dead
match_shortest_run-memoize_run-requires-clause-dead = runs.match_shortest_run-memoize_run-requires-clause-dead

pub match_shortest_run-returns : goal.match_shortest_run-returns
match_shortest_run-returns = runs.match_shortest_run-returns

pub match_greedy_run-loop-shorter-init : goal.match_greedy_run-loop-shorter-init
match_greedy_run-loop-shorter-init = runs.match_greedy_run-loop-shorter-init

pub match_greedy_run-after_prefix-rest-requires : goal.match_greedy_run-after_prefix-rest-requires
match_greedy_run-after_prefix-rest-requires = runs.match_greedy_run-after_prefix-rest-requires

pub match_greedy_run-match_after_capture-requires : goal.match_greedy_run-match_after_capture-requires
match_greedy_run-match_after_capture-requires = runs.match_greedy_run-match_after_capture-requires

pub match_greedy_run-returns-then-branch : goal.match_greedy_run-returns-then-branch
match_greedy_run-returns-then-branch = runs.match_greedy_run-returns-then-branch

pub match_greedy_run-loop-shorter-preserved : goal.match_greedy_run-loop-shorter-preserved
match_greedy_run-loop-shorter-preserved = runs.match_greedy_run-loop-shorter-preserved

pub match_greedy_run-match_after_capture-requires-then-run : goal.match_greedy_run-match_after_capture-requires-then-run
match_greedy_run-match_after_capture-requires-then-run = runs.match_greedy_run-match_after_capture-requires-then-run

pub match_greedy_run-returns-then-run : goal.match_greedy_run-returns-then-run
match_greedy_run-returns-then-run = runs.match_greedy_run-returns-then-run

pub match_greedy_run-returns-else-run : goal.match_greedy_run-returns-else-run
match_greedy_run-returns-else-run = runs.match_greedy_run-returns-else-run

-- ---- a repeated literal

pub match_copies-match_any_copies-requires : goal.match_copies-match_any_copies-requires
match_copies-match_any_copies-requires = copies.match_copies-match_any_copies-requires

pub match_copies-match_any_copies-requires-in-Some : goal.match_copies-match_any_copies-requires-in-Some
match_copies-match_any_copies-requires-in-Some = copies.match_copies-match_any_copies-requires-in-Some

pub match_copies-returns-then-copies : goal.match_copies-returns-then-copies
match_copies-returns-then-copies = copies.match_copies-returns-then-copies

pub match_copies-returns-in-Some : goal.match_copies-returns-in-Some
match_copies-returns-in-Some = copies.match_copies-returns-in-Some

pub match_copies-returns-in-None : goal.match_copies-returns-in-None
match_copies-returns-in-None = copies.match_copies-returns-in-None

pub match_any_copies-loop-shorter-init : goal.match_any_copies-loop-shorter-init
match_any_copies-loop-shorter-init = copies.match_any_copies-loop-shorter-init

pub match_any_copies-after_prefix-requires : goal.match_any_copies-after_prefix-requires
match_any_copies-after_prefix-requires = copies.match_any_copies-after_prefix-requires

pub match_any_copies-match_rest-requires : goal.match_any_copies-match_rest-requires
match_any_copies-match_rest-requires = copies.match_any_copies-match_rest-requires

pub match_any_copies-returns-then-branch : goal.match_any_copies-returns-then-branch
match_any_copies-returns-then-branch = copies.match_any_copies-returns-then-branch

pub match_any_copies-returns-in_default : goal.match_any_copies-returns-in_default
match_any_copies-returns-in_default = copies.match_any_copies-returns-in_default

pub match_any_copies-loop-shorter-preserved : goal.match_any_copies-loop-shorter-preserved
match_any_copies-loop-shorter-preserved = copies.match_any_copies-loop-shorter-preserved

-- ---- separated runs

pub match_segments-end_of_segments-requires : goal.match_segments-end_of_segments-requires
match_segments-end_of_segments-requires = segments.match_segments-end_of_segments-requires

pub match_segments-match_after_capture-requires : goal.match_segments-match_after_capture-requires
match_segments-match_after_capture-requires = segments.match_segments-match_after_capture-requires

pub match_segments-returns-in-Some : goal.match_segments-returns-in-Some
match_segments-returns-in-Some = segments.match_segments-returns-in-Some

pub match_segments-returns-in-None : goal.match_segments-returns-in-None
match_segments-returns-in-None = segments.match_segments-returns-in-None

pub end_of_segments-end_here-requires : goal.end_of_segments-end_here-requires
end_of_segments-end_here-requires = segments.end_of_segments-end_here-requires

pub end_of_segments-loop-begun-init : goal.end_of_segments-loop-begun-init
end_of_segments-loop-begun-init = segments.end_of_segments-loop-begun-init

pub end_of_segments-returns-in_default-clause-cut : goal.end_of_segments-returns-in_default-clause-cut
end_of_segments-returns-in_default-clause-cut = segments.end_of_segments-returns-in_default-clause-cut

pub end_of_segments-loop-begun-preserved : goal.end_of_segments-loop-begun-preserved
end_of_segments-loop-begun-preserved = segments.end_of_segments-loop-begun-preserved
