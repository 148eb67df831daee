-- The goals for separated runs.
use Rattle.std.proofs.Common.{ℕ, ◌∷◌, ◌++◌, [], None, sym, ap, ◌∙◌, subst, arith, rules}
use Rattle.std.proofs.lemmas.Str.{IsUtf8-encode}
use Rattle.std.specs.Str.{chars, IsUtf8}
use Rattle.urlpattern_steps.specs.Walk.{Continuation, captured_prefix, literals, walk}
use Rattle.urlpattern_steps.specs.AddedCaptures.{IsPrefixLengthFor}
use Rattle.urlpattern_steps.proofs.AttemptLemmas.{IsCut, cut_end, cut_sooner, cut_whole, follows_later, follows_missed, untouched-same, untouched-then}
use Rattle.urlpattern_steps.proofs.EndLemmas.{IsTable, begins, either, place_ends, segments_none, segments_some, table_begun, table_next}
use Rattle.urlpattern_steps.proofs.FirstLemmas.{passed_shorter, places}
use Rattle.urlpattern_steps.proofs.walk.Attempt.+following.Goals as goal
use Rattle.urlpattern_steps.proofs.walk.Attempt.+following.Goals.{end_of_segments-After-choose_ends-beginning}

pub match_segments-end_of_segments-requires : goal.match_segments-end_of_segments-requires
match_segments-end_of_segments-requires n c = (
  omega (arith, passed_shorter c.args.segments.separator.others c.args.steps.now c.skip_steps-others.result.now c.skip_steps-others.ensures),
  search (rules, places),
)

pub match_segments-match_after_capture-requires : goal.match_segments-match_after_capture-requires
match_segments-match_after_capture-requires n c = (
  omega (arith, passed_shorter c.args.segments.separator.others c.args.steps.now c.skip_steps-others.result.now c.skip_steps-others.ensures),
  search (rules, places, c.in_ok-count.ensures.same),
)

pub match_segments-returns-in-Some : goal.match_segments-returns-in-Some
match_segments-returns-in-Some n c =
    follows_later c.args.self.now c.end_of_segments.new.self c.match_after_capture.new.self _ _ c.match_after_capture.result c.in_ok-count.ensures.same
    (segments_some c.args.ignore_case c.args.segments c.args.steps.now c.first_steps-literal.result.now c.skip_steps-others.result.now c.args.text.now c.first_steps-literal.ensures c.skip_steps-others.ensures _ c.in-Some.count
    c.split_at_boundary.result.0.now c.split_at_boundary.result.1.now c.in_ok-count.ensures.cut c.in-Some.is c.split_at_boundary.ensures.cut c.split_at_boundary.ensures.count)
    c.match_after_capture.ensures

pub match_segments-returns-in-None : goal.match_segments-returns-in-None
match_segments-returns-in-None n c =
    follows_missed c.args.self.now c.end_of_segments.new.self _ c.in_ok-count.ensures.same
    (segments_none c.args.ignore_case c.args.segments c.args.steps.now c.first_steps-literal.result.now c.skip_steps-others.result.now c.args.text.now c.first_steps-literal.ensures c.skip_steps-others.ensures _
    c.in_ok-count.ensures.cut c.in-None.is)

pub end_of_segments-end_here-requires : goal.end_of_segments-end_here-requires
end_of_segments-end_here-requires n c = search (rules, places)

pub end_of_segments-loop-begun-init : goal.end_of_segments-loop-begun-init
end_of_segments-loop-begun-init n c =
    let first = c.args.segments.separator.first in
    let literal = literals c.args.literal.now in
    let is_greedy = c.args.segments.is_greedy in
    let end = c.args.segments.end in
    let gives : Continuation = captured_prefix (walk c.args.ignore_case c.args.others.now) in
    let text = c.args.text.now in
    record {
      is_text = search rules;
      so_far = subst (λ t. IsCut text text (λ r. IsTable c.args.ignore_case first literal is_greedy end gives text (chars text) r t None)) (sym c.in_ok-begun.ensures.items)
          (cut_end text (λ r. IsTable c.args.ignore_case first literal is_greedy end gives text (chars text) r [] None) (table_begun c.args.ignore_case first literal is_greedy end gives text (chars text)));
      before = untouched-same c.args.self.now;
    }

-- The ends at a place after the calls have returned.
ends_placed : (n : ℕ) (c : end_of_segments-After-choose_ends-beginning n)
    → let first = c.args.segments.separator.first in
    let literal = literals c.args.literal.now in
    let is_greedy = c.args.segments.is_greedy in
    let end = c.args.segments.end in
    let gives : Continuation = captured_prefix (walk c.args.ignore_case c.args.others.now) in
    let text = c.args.text.now in
    let front = chars c.loop-begun.front.now in
    let rest = chars c.after_prefix-rest.result.now in
    IsTable c.args.ignore_case first literal is_greedy end gives text front rest c.deref.result.now c.loop-begun.later
    × IsPrefixLengthFor gives text c.choose_ends-beginning.result.0 (begins c.args.ignore_case first literal is_greedy end gives front rest)
    × IsPrefixLengthFor gives text c.choose_ends-beginning.result.1 (either c.args.ignore_case first literal is_greedy end gives front rest)
ends_placed n c =
    let so_far = c.loop-begun.invariant.so_far in
    let utf8 : IsUtf8 c.loop-begun.front.now = search rules in
    place_ends c.args.ignore_case c.args.segments.separator.first (literals c.args.literal.now) c.args.segments.is_greedy c.args.segments.end (walk c.args.ignore_case c.args.others.now) c.args.text.now c.loop-begun.front.now
    c.after_prefix-rest.result.now so_far.0 c.deref.result.now c.loop-begun.begun.items c.loop-begun.later c.entry_after_literal-next.result c.in_ok-stopping.stopping
    c.end_if_continued-onward.result c.choose_ends-beginning.result.0 c.choose_ends-beginning.result.1 utf8 so_far.1 c.after_prefix-rest.ensures so_far.2 so_far.3 c.deref.ensures.value
    c.entry_after_literal-next.ensures.there c.entry_after_literal-next.ensures.other c.in_ok-stopping.ensures.end c.end_if_continued-onward.ensures c.choose_ends-beginning.ensures.beginning c.choose_ends-beginning.ensures.either

pub end_of_segments-returns-in_default-clause-cut : goal.end_of_segments-returns-in_default-clause-cut
end_of_segments-returns-in_default-clause-cut n c =
    let gives : Continuation = captured_prefix (walk c.args.ignore_case c.args.others.now) in
    let text = c.args.text.now in
    cut_whole text c.loop-begun.front.now c.after_prefix-rest.result.now
    (λ front rest. IsPrefixLengthFor gives text c.choose_ends-beginning.result.0 (begins c.args.ignore_case c.args.segments.separator.first (literals c.args.literal.now) c.args.segments.is_greedy c.args.segments.end gives front rest))
    c.after_prefix-rest.ensures c.in_default.ensures.empty (ends_placed n ((goal.at.end_of_segments-returns-in_default-clause-cut n c).After-choose_ends-beginning)).1

pub end_of_segments-loop-begun-preserved : goal.end_of_segments-loop-begun-preserved
end_of_segments-loop-begun-preserved n c =
    let front = c.loop-begun.front.now in
    let rest = c.after_prefix-rest.result.now in
    let shorter = c.in-Some.shorter.now in
    let last = c.in-Some.ensures.cut in
    let front_utf8 : IsUtf8 shorter = search rules in
    let further : IsUtf8 rest = search rules in
    let ends = ends_placed n ((goal.at.end_of_segments-loop-begun-preserved n c).After-choose_ends-beginning) in
    record {
      is_text = search rules;
      so_far = cut_sooner c.args.text.now front shorter rest last.0
          (λ r. IsTable c.args.ignore_case c.args.segments.separator.first (literals c.args.literal.now) c.args.segments.is_greedy c.args.segments.end (captured_prefix (walk c.args.ignore_case c.args.others.now)) c.args.text.now (chars shorter) r c.push.new.self.items c.choose_ends-beginning.result.1)
          last.1 further c.after_prefix-rest.ensures last.2
          (table_next c.args.ignore_case c.args.segments.separator.first (literals c.args.literal.now) c.args.segments.is_greedy c.args.segments.end (captured_prefix (walk c.args.ignore_case c.args.others.now)) c.args.text.now front shorter rest last.0
          c.deref.result.now c.push.new.self.items c.loop-begun.later c.choose_ends-beginning.result.0 c.choose_ends-beginning.result.1
          front_utf8 further last.1 (IsUtf8-encode last.0 last.1) last.2 (c.in_ok-push.ensures.items ∙ ap (λ t. t ++ c.choose_ends-beginning.result.0 ∷ []) (sym c.deref.ensures.value)) ends.0 ends.1 ends.2);
      before = untouched-then c.args.self.now c.loop-begun.self _ c.loop-begun.invariant.before c.in_ok-stopping.ensures.same;
    }
