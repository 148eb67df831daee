-- The goals for runs of characters.
use Rattle.std.proofs.Common.{◌≡◌, ℕ, ◌∷◌, ◌++◌, [], None, length, sym, ap, ◌∙◌, subst, rules}
use Rattle.std.proofs.lemmas.Str.{IsUtf8-encode}
use Rattle.std.specs.Option.{option_or}
use Rattle.std.specs.Str.{chars, IsUtf8}
use Rattle.urlpattern_syntax.proofs.TextLemmas.{chars-empty}
use Rattle.urlpattern_syntax.specs.Text.{line_feed}
use Rattle.urlpattern_steps.specs.declared.step.Step.TheVariants.{DotStar, GreedyRun}
use Rattle.urlpattern_steps.specs.FailedStates.{EndsWith, HasEnded}
use Rattle.urlpattern_steps.specs.Walk.{Continuation, captured_prefix, longest, shortest, up_to_first, walk}
use Rattle.urlpattern_steps.specs.AddedCaptures.{Untouched}
use Rattle.urlpattern_steps.proofs.AttemptLemmas.{cut_sooner, follows_later, follows_missed, follows_none, follows_taken, follows_untouched, untouched-same}
use Rattle.urlpattern_steps.proofs.FallingLemmas.{falling, falling-found, front_shrinks}
use Rattle.urlpattern_steps.proofs.FollowLemmas.{bytes_join, last_passed, longest_dead, longest_missed, longest_taken, run_ended, run_passed, shortest_grown}
use Rattle.urlpattern_steps.proofs.LongestLemmas.{at_least, falling_empty, falling_none, front_given, longest_run_falling}
use Rattle.urlpattern_steps.proofs.RunLemmas.{both_ends, lacks_less, longest_ended, longest_shorter}
use Rattle.urlpattern_steps.proofs.FirstLemmas.{places}
use Rattle.urlpattern_steps.proofs.walk.Attempt.+following.Goals as goal
use Rattle.urlpattern_steps.proofs.walk.Attempt.+following.Goals.{match_longest_run-Else-branch, match_greedy_run-After-match_after_capture, match_shortest_run-After-match_after_capture}

-- ---- the longest prefix

pub match_longest_run-loop-self-init : goal.match_longest_run-loop-self-init
match_longest_run-loop-self-init n c =
    let cut = c.longest_prefix-front.ensures in
    let ended : HasEnded c.args.ignore_case line_feed (DotStar ∷ c.args.others.now) (chars cut.0) = subst (λ s. HasEnded c.args.ignore_case line_feed s (chars cut.0)) c.requires.1.1.1 cut.4 in
    record {
      is_text = search rules;
      so_far = (cut.0, cut.1, cut.2, (cut.3, longest_ended c.args.ignore_case line_feed (walk c.args.ignore_case c.args.others.now) (chars c.longest_prefix-front.result.now) (chars cut.0) ended));
      before = untouched-same c.args.self.now;
    }

pub match_longest_run-match_after_capture-requires : goal.match_longest_run-match_after_capture-requires
match_longest_run-match_after_capture-requires n c =
    let first : EndsWith c.args.steps.now c.args.others.now = (DotStar ∷ [], c.requires.1.1.1) in
    search (rules, places, first)

pub match_longest_run-returns-then-branch : goal.match_longest_run-returns-then-branch
match_longest_run-returns-then-branch n c =
    let front = c.loop-self.front.now in
    let so_far = c.loop-self.invariant.so_far in
    let utf8 : IsUtf8 front = search rules in
    follows_taken c.args.self.now c.loop-self.self c.match_after_capture.new.self _ _ _ c.loop-self.invariant.before c.if-branch.true c.in_ok-match_after_capture.ensures
    (λ found some. longest_taken c.args.ignore_case c.args.steps.now c.args.others.now c.requires.1.1.1 c.args.text.now front c.after_prefix-rest.result.now so_far.0 found utf8 c.after_prefix-rest.ensures so_far.2 so_far.3.0 so_far.3.1
    some)

-- No prefix of this length or longer has a match.
longest_none : (n : ℕ) (c : match_longest_run-Else-branch n)
    → longest c.args.ignore_case line_feed (captured_prefix (walk c.args.ignore_case c.args.others.now)) (chars c.loop-self.front.now) (chars c.after_prefix-rest.result.now) ≡ None
longest_none n c =
    let so_far = c.loop-self.invariant.so_far in
    longest_missed c.args.ignore_case c.args.others.now c.args.text.now c.loop-self.front.now c.after_prefix-rest.result.now so_far.0 c.loop-self.self.captures.items c.match_after_capture.new.self.captures.items _
    c.after_prefix-rest.ensures so_far.2 so_far.3.1 c.if-branch.false c.in_ok-match_after_capture.ensures.adds

longest_untouched : (n : ℕ) (c : match_longest_run-Else-branch n) → Untouched c.args.self.now c.match_after_capture.new.self
longest_untouched n c = follows_untouched c.args.self.now c.loop-self.self c.match_after_capture.new.self _ _ c.loop-self.invariant.before c.if-branch.false c.in_ok-match_after_capture.ensures

pub match_longest_run-insert-requires : goal.match_longest_run-insert-requires
match_longest_run-insert-requires n c =
    let before = longest_untouched n ((goal.at.match_longest_run-insert-requires n c).Else-branch) in (
      c.args.ignore_case,
      search (rules, places, before),
      longest_dead c.args.ignore_case c.args.steps.now c.args.others.now c.requires.1.1.1 (chars c.loop-self.front.now) (chars c.after_prefix-rest.result.now)
          (longest_none n ((goal.at.match_longest_run-insert-requires n c).Else-branch)),
    )

pub match_longest_run-returns-in_default : goal.match_longest_run-returns-in_default
match_longest_run-returns-in_default n c =
    let front = c.loop-self.front.now in
    let rest = c.after_prefix-rest.result.now in
    let missed = (goal.at.match_longest_run-returns-in_default n c).Else-branch in
    let before = longest_untouched n missed in
    let whole : c.args.text.now ≡ rest = c.after_prefix-rest.ensures ∙ ap (λ f. f ++ rest) c.in_default.ensures.empty in
    follows_missed c.args.self.now _ _ (record { same = before.same; whole = c.insert.ensures ∙ before.whole })
    (ap (λ t. walk c.args.ignore_case c.args.steps.now (chars t)) whole ∙ longest_dead c.args.ignore_case c.args.steps.now c.args.others.now c.requires.1.1.1 (chars front) (chars rest) (longest_none n missed))

pub match_longest_run-loop-self-preserved : goal.match_longest_run-loop-self-preserved
match_longest_run-loop-self-preserved n c =
    let front = c.loop-self.front.now in
    let shorter = c.in-Some.shorter.now in
    let rest = c.after_prefix-rest.result.now in
    let gives : Continuation = captured_prefix (walk c.args.ignore_case c.args.others.now) in
    let so_far = c.loop-self.invariant.so_far in
    let missed = (goal.at.match_longest_run-loop-self-preserved n c).Else-branch in
    let before = longest_untouched n missed in
    let last = c.in-Some.ensures.cut in
    let utf8 : IsUtf8 shorter = search rules in
    let after : IsUtf8 rest = search rules in
    let passed = last_passed front shorter rest last.0 utf8 after last.1 (IsUtf8-encode last.0 last.1) last.2 in
    let less = lacks_less c.args.ignore_case line_feed (chars shorter) last.0 (subst (λ f. up_to_first c.args.ignore_case line_feed f ≡ f) passed.0 so_far.3.0) in
    record {
      is_text = search rules;
      so_far = cut_sooner c.args.text.now front shorter rest last.0
          (λ r. (up_to_first c.args.ignore_case line_feed (chars shorter) ≡ chars shorter) × (longest c.args.ignore_case line_feed gives (chars shorter) r ≡ gives (chars shorter) r)) last.1 after c.after_prefix-rest.ensures last.2 (
            less.0,
            subst (λ r. longest c.args.ignore_case line_feed gives (chars shorter) r ≡ gives (chars shorter) r) (sym passed.1)
                (longest_shorter c.args.ignore_case line_feed gives (chars shorter) last.0 (chars rest) less.1 (ap (λ f. longest c.args.ignore_case line_feed gives f (chars rest)) (sym passed.0) ∙ longest_none n missed)),
          );
      before = record { same = before.same; whole = c.insert.ensures ∙ before.whole };
    }

-- ---- the shortest prefix

pub match_shortest_run-next_of_run-requires : goal.match_shortest_run-next_of_run-requires
match_shortest_run-next_of_run-requires n c =
    let so_far = c.loop-remaining.invariant.so_far in
    let ends : EndsWith (chars c.args.text.now) (chars c.loop-remaining.rest.now) = (so_far.0, so_far.1) in
    search (rules, places, ends)

pub match_shortest_run-before-requires : goal.match_shortest_run-before-requires
match_shortest_run-before-requires n c =
    let so_far = c.loop-remaining.invariant.so_far in
    let d = c.in-Some.field-0-0 in
    (so_far.0 ++ d ∷ [], run_passed so_far.0 (chars c.args.text.now) (chars c.loop-remaining.rest.now) d (chars c.in-Some.remaining.now) so_far.1 c.in-Some.ensures.cut)

pub match_shortest_run-match_after_capture-requires : goal.match_shortest_run-match_after_capture-requires
match_shortest_run-match_after_capture-requires n c =
    let so_far = c.loop-remaining.invariant.so_far in
    let d = c.in-Some.field-0-0 in
    let text = chars c.args.text.now in
    let remaining = chars c.in-Some.remaining.now in
    let ends : EndsWith text remaining = (so_far.0 ++ d ∷ [], run_passed so_far.0 text (chars c.loop-remaining.rest.now) d remaining so_far.1 c.in-Some.ensures.cut) in
    search (rules, places, ends)

-- The result of this prefix comes first, and then those of longer ones.
shortest_so_far : (n : ℕ) (c : match_shortest_run-After-match_after_capture n)
    → let gives : Continuation = captured_prefix (walk c.args.ignore_case c.args.others.now) in
    let remaining = chars c.in-Some.remaining.now in
    walk c.args.ignore_case c.args.steps.now (chars c.args.text.now)
    ≡ option_or (gives (chars c.before-in-Some.result.now) remaining) (shortest c.args.ignore_case c.args.end gives (c.loop-remaining.invariant.so_far.0 ++ c.in-Some.field-0-0 ∷ []) remaining)
shortest_so_far n c =
    let so_far = c.loop-remaining.invariant.so_far in
    so_far.2
    ∙ shortest_grown c.args.ignore_case c.args.end (captured_prefix (walk c.args.ignore_case c.args.others.now)) (chars c.args.text.now) so_far.0 (chars c.before-in-Some.result.now) (chars c.loop-remaining.rest.now) (chars c.in-Some.remaining.now)
    c.in-Some.field-0-0 so_far.1 c.in-Some.ensures.cut c.in-Some.ensures.other c.before-in-Some.ensures

pub match_shortest_run-returns-then-branch : goal.match_shortest_run-returns-then-branch
match_shortest_run-returns-then-branch n c =
    let longer = shortest c.args.ignore_case c.args.end (captured_prefix (walk c.args.ignore_case c.args.others.now)) (c.loop-remaining.invariant.so_far.0 ++ c.in-Some.field-0-0 ∷ []) (chars c.in-Some.remaining.now) in
    follows_taken c.args.self.now c.loop-remaining.self c.match_after_capture.new.self _ _ _ c.loop-remaining.invariant.before c.if-branch.true c.in_ok-match_after_capture.ensures
    (λ found some. shortest_so_far n ((goal.at.match_shortest_run-returns-then-branch n c).After-match_after_capture) ∙ ap (λ o. option_or o longer) some)

pub match_shortest_run-loop-remaining-preserved : goal.match_shortest_run-loop-remaining-preserved
match_shortest_run-loop-remaining-preserved n c =
    let so_far = c.loop-remaining.invariant.so_far in
    let d = c.in-Some.field-0-0 in
    let remaining = chars c.in-Some.remaining.now in
    let longer = shortest c.args.ignore_case c.args.end (captured_prefix (walk c.args.ignore_case c.args.others.now)) (so_far.0 ++ d ∷ []) remaining in
    let none = follows_none c.loop-remaining.self c.match_after_capture.new.self _ _ c.if-branch.false c.in_ok-match_after_capture.ensures in
    record {
      is_text = search rules;
      so_far = (
        so_far.0 ++ d ∷ [],
        run_passed so_far.0 (chars c.args.text.now) (chars c.loop-remaining.rest.now) d remaining so_far.1 c.in-Some.ensures.cut,
        shortest_so_far n ((goal.at.match_shortest_run-loop-remaining-preserved n c).After-match_after_capture) ∙ ap (λ o. option_or o longer) none,
      );
      before = follows_untouched c.args.self.now c.loop-remaining.self c.match_after_capture.new.self _ _ c.loop-remaining.invariant.before c.if-branch.false c.in_ok-match_after_capture.ensures;
    }

pub match_shortest_run-memoize_run-requires-clause-dead : goal.match_shortest_run-memoize_run-requires-clause-dead
match_shortest_run-memoize_run-requires-clause-dead n c =
    let so_far = c.loop-remaining.invariant.so_far in
    so_far.2 ∙ run_ended c.args.ignore_case c.args.end c.args.steps.now c.args.others.now so_far.0 (chars c.loop-remaining.rest.now) c.requires.1.1.1 c.in_default.ensures.none

pub match_shortest_run-returns : goal.match_shortest_run-returns
match_shortest_run-returns n c =
    let so_far = c.loop-remaining.invariant.so_far in
    let before = c.loop-remaining.invariant.before in
    follows_missed c.args.self.now _ _ (record { same = before.same; whole = c.memoize_run.ensures ∙ before.whole })
    (so_far.2 ∙ run_ended c.args.ignore_case c.args.end c.args.steps.now c.args.others.now so_far.0 (chars c.loop-remaining.rest.now) c.requires.1.1.1 c.in_default.ensures.none)

-- ---- a greedy run

pub match_greedy_run-loop-shorter-init : goal.match_greedy_run-loop-shorter-init
match_greedy_run-loop-shorter-init n c =
    let run = c.args.run in
    let text = chars c.args.text.now in
    let front = c.split_at_first.result.0.now in
    let rest = c.split_at_first.result.1.now in
    let utf8 : IsUtf8 front = search rules in
    let further : IsUtf8 rest = search rules in
    let whole : IsUtf8 c.args.text.now = search rules in
    let cut : text ≡ chars front ++ chars rest = rw (c.split_at_first.ensures.front, c.split_at_first.ensures.rest) (sym (both_ends c.args.ignore_case run.end text)) in
    record {
      is_text = search rules;
      so_far = (
        rest,
        further,
        bytes_join c.args.text.now front rest whole utf8 further cut,
        rw (c.split_at_first.ensures.front, c.split_at_first.ensures.rest) (longest_run_falling c.args.ignore_case run.may_be_empty run.end (captured_prefix (walk c.args.ignore_case c.args.steps.now)) text),
      );
      before = untouched-same c.args.self.now;
    }

pub match_greedy_run-after_prefix-rest-requires : goal.match_greedy_run-after_prefix-rest-requires
match_greedy_run-after_prefix-rest-requires n c = let so_far = c.loop-shorter.invariant.so_far in (so_far.0, so_far.1, so_far.2)

pub match_greedy_run-match_after_capture-requires : goal.match_greedy_run-match_after_capture-requires
match_greedy_run-match_after_capture-requires n c = search (rules, places)

-- A nonempty prefix has the result of the continuation.
run_given : (n : ℕ) (c : match_greedy_run-After-match_after_capture n)
    → let gives : Continuation = captured_prefix (walk c.args.ignore_case c.args.steps.now) in
    let front = chars c.loop-shorter.front.now in
    at_least c.args.run.may_be_empty gives front (chars c.loop-shorter.invariant.so_far.0) ≡ gives front (chars c.after_prefix-rest.result.now)
run_given n c =
    let so_far = c.loop-shorter.invariant.so_far in
    let last = c.in-Some.ensures.cut in
    let utf8 : IsUtf8 c.in-Some.shorter.now = search rules in
    front_given c.args.run.may_be_empty (captured_prefix (walk c.args.ignore_case c.args.steps.now)) c.args.text.now c.loop-shorter.front.now c.in-Some.shorter.now c.after_prefix-rest.result.now so_far.0 last.0 utf8 last.1 last.2
    c.after_prefix-rest.ensures so_far.2

pub match_greedy_run-returns-then-branch : goal.match_greedy_run-returns-then-branch
match_greedy_run-returns-then-branch n c =
    let so_far = c.loop-shorter.invariant.so_far in
    follows_taken c.args.self.now c.loop-shorter.self c.match_after_capture.new.self _ _ _ c.loop-shorter.invariant.before c.if-branch.true c.in_ok-match_after_capture.ensures
    (λ found some. so_far.3 ∙ falling-found (at_least c.args.run.may_be_empty (captured_prefix (walk c.args.ignore_case c.args.steps.now))) [] (chars c.loop-shorter.front.now) (chars so_far.0) found
    (run_given n ((goal.at.match_greedy_run-returns-then-branch n c).After-match_after_capture) ∙ some))

pub match_greedy_run-loop-shorter-preserved : goal.match_greedy_run-loop-shorter-preserved
match_greedy_run-loop-shorter-preserved n c =
    let front = c.loop-shorter.front.now in
    let shorter = c.in-Some.shorter.now in
    let tries : Continuation = at_least c.args.run.may_be_empty (captured_prefix (walk c.args.ignore_case c.args.steps.now)) in
    let so_far = c.loop-shorter.invariant.so_far in
    let last = c.in-Some.ensures.cut in
    let utf8 : IsUtf8 shorter = search rules in
    let none = follows_none c.loop-shorter.self c.match_after_capture.new.self _ _ c.if-branch.false c.in_ok-match_after_capture.ensures in
    record {
      is_text = search rules;
      so_far = cut_sooner c.args.text.now front shorter so_far.0 last.0
          (λ r. walk c.args.ignore_case (GreedyRun c.args.run ∷ c.args.steps.now) (chars c.args.text.now) ≡ falling tries [] (chars shorter) r) last.1 so_far.1 so_far.2 last.2
          (so_far.3 ∙ front_shrinks tries front shorter so_far.0 last.0 utf8 so_far.1 last.1 (IsUtf8-encode last.0 last.1) last.2
          (run_given n ((goal.at.match_greedy_run-loop-shorter-preserved n c).After-match_after_capture) ∙ none));
      before = follows_untouched c.args.self.now c.loop-shorter.self c.match_after_capture.new.self _ _ c.loop-shorter.invariant.before c.if-branch.false c.in_ok-match_after_capture.ensures;
    }

pub match_greedy_run-match_after_capture-requires-then-run : goal.match_greedy_run-match_after_capture-requires-then-run
match_greedy_run-match_after_capture-requires-then-run n c = search (rules, places)

pub match_greedy_run-returns-then-run : goal.match_greedy_run-returns-then-run
match_greedy_run-returns-then-run n c =
    let front = c.loop-shorter.front.now in
    let gives : Continuation = captured_prefix (walk c.args.ignore_case c.args.steps.now) in
    let so_far = c.loop-shorter.invariant.so_far in
    follows_later c.args.self.now c.loop-shorter.self c.match_after_capture-then-run.new.self _ (gives (chars front) (chars c.args.text.now)) c.match_after_capture-then-run.result c.loop-shorter.invariant.before
    (so_far.3
    ∙ ap (λ b. falling (at_least b gives) [] (chars front) (chars so_far.0)) c.if-run.true
    ∙ falling_empty gives (chars front) (chars so_far.0) (chars-empty front (ap length c.in_default.ensures.empty))
    ∙ ap (λ r. gives (chars front) (chars r)) (sym (so_far.2 ∙ ap (λ f. f ++ so_far.0) c.in_default.ensures.empty)))
    c.match_after_capture-then-run.ensures

pub match_greedy_run-returns-else-run : goal.match_greedy_run-returns-else-run
match_greedy_run-returns-else-run n c =
    let front = c.loop-shorter.front.now in
    let gives : Continuation = captured_prefix (walk c.args.ignore_case c.args.steps.now) in
    let so_far = c.loop-shorter.invariant.so_far in
    follows_missed c.args.self.now c.loop-shorter.self _ c.loop-shorter.invariant.before
    (so_far.3
    ∙ ap (λ b. falling (at_least b gives) [] (chars front) (chars so_far.0)) c.if-run.false
    ∙ falling_none gives (chars front) (chars so_far.0) (chars-empty front (ap length c.in_default.ensures.empty)))
