-- The goals for repeated literals.
use Rattle.std.proofs.Common.{◌≡◌, ◌++◌, [], sym, ap, ◌∙◌, append_assoc, arith, rules}
use Rattle.std.proofs.lemmas.List.{append_cancel_left, append_cancel_right}
use Rattle.std.proofs.lemmas.Str.{IsUtf8-append}
use Rattle.std.specs.Str.{chars, IsUtf8}
use Rattle.urlpattern_steps.specs.FailedStates.{EndsWith}
use Rattle.urlpattern_steps.specs.Walk.{literal_text, walk_copies, after_text, any_rounds, in_turn, literals, walk}
use Rattle.urlpattern_steps.proofs.AttemptLemmas.{follows_later, follows_missed, follows_none, follows_taken, follows_untouched, untouched-same}
use Rattle.urlpattern_steps.proofs.CopyLemmas.{copies_any, copies_led, copies_none, copies_some, copy_shrinks, led, led-found, no_copy_left}
use Rattle.urlpattern_steps.proofs.FollowLemmas.{bytes_join}
use Rattle.urlpattern_steps.proofs.Tried.{Next}
use Rattle.urlpattern_steps.proofs.FirstLemmas.{passed_shorter, places}
use Rattle.urlpattern_steps.proofs.walk.Attempt.+following.Goals as goal

pub match_copies-match_any_copies-requires : goal.match_copies-match_any_copies-requires
match_copies-match_any_copies-requires n c = (
  omega (arith, passed_shorter c.args.copies.text.others c.args.steps.now c.skip_steps-others.result.now c.skip_steps-others.ensures),
  search (rules, places),
)

pub match_copies-match_any_copies-requires-in-Some : goal.match_copies-match_any_copies-requires-in-Some
match_copies-match_any_copies-requires-in-Some n c =
    let behind : EndsWith (chars c.args.text.now) (chars c.in-Some.rest.now) = (c.in-Some.ensures.cut.0, c.in-Some.ensures.cut.1) in
    (omega (arith, passed_shorter c.args.copies.text.others c.args.steps.now c.skip_steps-others.result.now c.skip_steps-others.ensures), search (rules, places, behind))

pub match_copies-returns-then-copies : goal.match_copies-returns-then-copies
match_copies-returns-then-copies n c =
    follows_later c.args.self.now c.args.self.now c.match_any_copies.new.self _ _ c.match_any_copies.result (untouched-same c.args.self.now)
    (copies_any c.args.ignore_case c.args.copies c.args.steps.now c.first_steps-literal.result.now c.skip_steps-others.result.now (chars c.args.text.now) c.first_steps-literal.ensures c.skip_steps-others.ensures c.if-copies.true)
    c.match_any_copies.ensures

pub match_copies-returns-in-Some : goal.match_copies-returns-in-Some
match_copies-returns-in-Some n c =
    follows_later c.args.self.now c.args.self.now c.match_any_copies-in-Some.new.self _ _ c.match_any_copies-in-Some.result (untouched-same c.args.self.now)
    (copies_some c.args.ignore_case c.args.copies c.args.steps.now c.first_steps-literal.result.now c.skip_steps-others.result.now (chars c.args.text.now) c.first_steps-literal.ensures c.skip_steps-others.ensures c.if-copies.false
    (chars c.in-Some.rest.now) c.in-Some.ensures.cut)
    c.match_any_copies-in-Some.ensures

pub match_copies-returns-in-None : goal.match_copies-returns-in-None
match_copies-returns-in-None n c =
    follows_missed c.args.self.now c.args.self.now _ (untouched-same c.args.self.now)
    (copies_none c.args.ignore_case c.args.copies c.args.steps.now c.first_steps-literal.result.now c.skip_steps-others.result.now (chars c.args.text.now) c.first_steps-literal.ensures c.skip_steps-others.ensures c.if-copies.false
    c.in-None.ensures.other)

pub match_any_copies-loop-shorter-init : goal.match_any_copies-loop-shorter-init
match_any_copies-loop-shorter-init n c =
    let copy = literal_text c.args.first c.args.literal.now in
    let text = c.args.text.now in
    let front = c.before-front.result.now in
    let rest = c.skip_copies-rest.result.now in
    let copies = c.skip_copies-rest.ensures.front in
    let utf8 : IsUtf8 front = search rules in
    let further : IsUtf8 rest = search rules in
    let whole : IsUtf8 text = search rules in
    record {
      is_text = search rules;
      so_far = (
        rest,
        further,
        bytes_join text front rest whole utf8 further c.before-front.ensures,
        (
          copies.0,
          append_cancel_right (chars front) (in_turn copies.0) (chars rest) (sym c.before-front.ensures ∙ copies.1),
          copies.2,
          ap (any_rounds (after_text c.args.ignore_case copy) (λ front rest. walk c.args.ignore_case c.args.others.now rest) []) copies.1
              ∙ copies_led c.args.ignore_case c.args.first (literals c.args.literal.now) (walk c.args.ignore_case c.args.others.now) copies.0 (chars rest) copies.2 c.skip_copies-rest.ensures.all,
        ),
      );
      before = untouched-same c.args.self.now;
    }

pub match_any_copies-after_prefix-requires : goal.match_any_copies-after_prefix-requires
match_any_copies-after_prefix-requires n c = let so_far = c.loop-shorter.invariant.so_far in (so_far.0, so_far.1, so_far.2)

pub match_any_copies-match_rest-requires : goal.match_any_copies-match_rest-requires
match_any_copies-match_rest-requires n c = search (rules, places)

pub match_any_copies-returns-then-branch : goal.match_any_copies-returns-then-branch
match_any_copies-returns-then-branch n c =
    let next : Next = walk c.args.ignore_case c.args.others.now in
    let so_far = c.loop-shorter.invariant.so_far in
    let left = c.after_prefix.result.now in
    let rest : left ≡ so_far.0 = append_cancel_left c.loop-shorter.front.now left so_far.0 (sym c.after_prefix.ensures ∙ so_far.2) in
    follows_taken c.args.self.now c.loop-shorter.self c.match_rest.new.self _ (next (chars left))
    (walk_copies c.args.ignore_case c.args.first c.args.literal.now c.args.others.now (chars c.args.text.now)) c.loop-shorter.invariant.before c.if-branch.true c.in_ok-match_rest.ensures
    (λ found some.
    so_far.3.3 ∙ ap (led next so_far.3.0 (chars so_far.0)) (ap (λ r. next (chars r)) (sym rest) ∙ some) ∙ led-found next so_far.3.0 (chars so_far.0) found)

pub match_any_copies-returns-in_default : goal.match_any_copies-returns-in_default
match_any_copies-returns-in_default n c =
    let next : Next = walk c.args.ignore_case c.args.others.now in
    let front = c.loop-shorter.front.now in
    let so_far = c.loop-shorter.invariant.so_far in
    let left = c.after_prefix.result.now in
    let rest : left ≡ so_far.0 = append_cancel_left front left so_far.0 (sym c.after_prefix.ensures ∙ so_far.2) in
    let none = follows_none c.loop-shorter.self c.match_rest.new.self _ (next (chars left)) c.if-branch.false c.in_ok-match_rest.ensures in
    follows_missed c.args.self.now c.match_rest.new.self _
    (follows_untouched c.args.self.now c.loop-shorter.self c.match_rest.new.self _ _ c.loop-shorter.invariant.before c.if-branch.false c.in_ok-match_rest.ensures)
    (so_far.3.3
    ∙ no_copy_left c.args.ignore_case c.args.first (literals c.args.literal.now) next so_far.3.0 (chars front) (chars so_far.0) (next (chars so_far.0)) so_far.3.1 so_far.3.2 c.in_default.ensures.few
    ∙ ap (λ r. next (chars r)) (sym rest) ∙ none)

pub match_any_copies-loop-shorter-preserved : goal.match_any_copies-loop-shorter-preserved
match_any_copies-loop-shorter-preserved n c =
    let next : Next = walk c.args.ignore_case c.args.others.now in
    let front = c.loop-shorter.front.now in
    let shorter = c.in-Some.shorter.now in
    let so_far = c.loop-shorter.invariant.so_far in
    let left = c.after_prefix.result.now in
    let rest : left ≡ so_far.0 = append_cancel_left front left so_far.0 (sym c.after_prefix.ensures ∙ so_far.2) in
    let none = follows_none c.loop-shorter.self c.match_rest.new.self _ (next (chars left)) c.if-branch.false c.in_ok-match_rest.ensures in
    let last = c.in-Some.ensures.cut in
    let utf8 : IsUtf8 shorter = search rules in
    let fewer_now = copy_shrinks c.args.ignore_case c.args.first (literals c.args.literal.now) next so_far.3.0 front shorter last.0 so_far.0 utf8 last.1 last.2 so_far.3.1 so_far.3.2 last.3 (ap (λ r. next (chars r)) (sym rest) ∙ none) in
    record {
      is_text = search rules;
      so_far = (
        last.0 ++ so_far.0,
        IsUtf8-append last.0 so_far.0 last.1 so_far.1,
        so_far.2 ∙ ap (λ f. f ++ so_far.0) last.2 ∙ append_assoc shorter last.0 so_far.0,
        (fewer_now.0, fewer_now.1, fewer_now.2, so_far.3.3 ∙ fewer_now.3),
      );
      before = follows_untouched c.args.self.now c.loop-shorter.self c.match_rest.new.self _ _ c.loop-shorter.invariant.before c.if-branch.false c.in_ok-match_rest.ensures;
    }
