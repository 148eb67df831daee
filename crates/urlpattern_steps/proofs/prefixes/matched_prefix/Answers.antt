use Rattle.std.proofs.Common.{rules, ℕ, List, ◌≡◌, ◌∷◌, ◌++◌, [], None, length, sym, ap, ◌∙◌, subst}
use Rattle.std.proofs.lemmas.List.{append_cancel_left}
use Rattle.std.proofs.lemmas.Str.{IsUtf8-encode}
use Rattle.std.specs.Str.{chars, IsUtf8}
use Rattle.std.specs.Prelude.{is_some}
use Rattle.urlpattern_steps.specs.Table.{IsRow}
use Rattle.urlpattern_steps.proofs.AttemptLemmas.{IsCut, cut_end, cut_sooner, cut_whole}
use Rattle.urlpattern_steps.proofs.PlaceLemmas.{IsPlaced, IsSoFar, end_whole, placed_now, row_whole, so_far_next, so_far_none}
use Rattle.urlpattern_steps.proofs.prefixes.matched_prefix.Goals as goal
use Rattle.urlpattern_steps.proofs.prefixes.matched_prefix.Goals.{After-ends_of-ends}

pub loop-row-init : goal.loop-row-init
loop-row-init c =
    let step = c.args.step in
    let others = c.args.others.now in
    let text = c.args.text.now in
    record {
      is_text = search rules;
      so_far = subst (λ b. IsCut text text (λ rest. IsSoFar c.args.ignore_case step others text (chars text) rest b c.in_ok-row.row.items None)) (sym c.in_ok-begun.ensures.items)
          (subst (λ r. IsCut text text (λ rest. IsSoFar c.args.ignore_case step others text (chars text) rest [] r None)) (sym c.in_ok-row.ensures.items)
          (cut_end text (λ rest. IsSoFar c.args.ignore_case step others text (chars text) rest [] [] None) (so_far_none c.args.ignore_case step others text (chars text))));
    }

pub entry_after-next-requires : goal.entry_after-next-requires
entry_after-next-requires c =
    let so_far = c.loop-row.invariant.so_far in
    let front = c.loop-row.front.now in
    let rest = c.after_prefix-rest.result.now in
    let same : rest ≡ so_far.0 = append_cancel_left front rest so_far.0 (sym c.after_prefix-rest.ensures ∙ so_far.2) in
    ap length c.deref.ensures.value ∙ so_far.3.is_begun.count ∙ ap (λ r. length (chars r)) (sym same)

-- The entries so far and the ends for this suffix, after a prefix and before the rest.
abbrev IsKnown : (c : After-ends_of-ends) → (front rest : List ℕ) → Type 0
IsKnown c front rest =
    IsSoFar c.args.ignore_case c.args.step c.args.others.now c.args.text.now front rest c.deref.result.now c.loop-row.row.items c.loop-row.later
    × IsPlaced c.args.ignore_case c.args.step c.args.others.now c.args.text.now front rest c.ends_of-ends.result.begun c.ends_of-ends.result.later c.ends_of-ends.result.whole

known : (c : After-ends_of-ends) → IsKnown c (chars c.loop-row.front.now) (chars c.after_prefix-rest.result.now)
known c =
    let so_far = c.loop-row.invariant.so_far in
    let utf8 : IsUtf8 c.loop-row.front.now = search rules in
    let len : c.len.result ≡ length c.loop-row.row.items = search rules in
    placed_now c.args.ignore_case c.args.step c.args.others.now c.args.text.now c.loop-row.front.now c.after_prefix-rest.result.now so_far.0 c.deref.result.now c.loop-row.begun.items c.loop-row.row.items c.args.row_after.now
    c.own_steps-literal.result.now c.literal_string_of-literal_string.result
    c.len.result c.end_of.result c.loop-row.later c.entry_after-next.result c.end_here-here.result c.end_if_continued-onward.result c.ends_of-ends.result.begun c.ends_of-ends.result.later c.ends_of-ends.result.whole
    c.requires.single utf8 so_far.1 c.after_prefix-rest.ensures so_far.2 so_far.3 c.deref.ensures.value c.requires.after c.literal_string_of-literal_string.ensures c.own_steps-literal.ensures c.entry_after-next.ensures
    len c.end_here-here.ensures c.end_of.ensures c.end_if_continued-onward.ensures c.ends_of-ends.ensures.begun c.ends_of-ends.ensures.later c.ends_of-ends.ensures.whole

known_whole : (c : After-ends_of-ends) → c.loop-row.front.now ≡ [] → IsKnown c [] (chars c.args.text.now)
known_whole c empty = cut_whole c.args.text.now c.loop-row.front.now c.after_prefix-rest.result.now (IsKnown c) c.after_prefix-rest.ensures empty (known c)

pub returns-in_default-clause-row : goal.returns-in_default-clause-row
returns-in_default-clause-row c =
    let at = known_whole ((goal.at.returns-in_default-clause-row c).After-ends_of-ends) c.in_default.ensures.empty in
    let pushed : c.push.new.self.items ≡ c.loop-row.row.items ++ is_some c.ends_of-ends.result.whole ∷ [] = c.in_ok-push.ensures.items ∙ ap (λ b. c.loop-row.row.items ++ b ∷ []) c.is_some.ensures in
    subst (IsRow c.args.ignore_case (chars c.args.text.now) (c.args.step ∷ c.args.others.now)) (sym pushed)
    (row_whole c.args.ignore_case c.args.step c.args.others.now c.args.text.now (chars c.args.text.now) c.deref.result.now c.loop-row.row.items c.loop-row.later c.ends_of-ends.result.begun c.ends_of-ends.result.later
    c.ends_of-ends.result.whole at.0 at.1)

pub returns-in_default-clause-end : goal.returns-in_default-clause-end
returns-in_default-clause-end c =
    let at = known_whole ((goal.at.returns-in_default-clause-end c).After-ends_of-ends) c.in_default.ensures.empty in
    end_whole c.args.ignore_case c.args.step c.args.others.now c.args.text.now (chars c.args.text.now) c.ends_of-ends.result.begun c.ends_of-ends.result.later c.ends_of-ends.result.whole at.1

pub loop-row-preserved : goal.loop-row-preserved
loop-row-preserved c =
    let step = c.args.step in
    let others = c.args.others.now in
    let text = c.args.text.now in
    let front = c.loop-row.front.now in
    let rest = c.after_prefix-rest.result.now in
    let ends = c.ends_of-ends.result in
    let at = known ((goal.at.loop-row-preserved c).After-ends_of-ends) in
    let pushed : c.push.new.self.items ≡ c.loop-row.row.items ++ is_some ends.whole ∷ [] = c.in_ok-push.ensures.items ∙ ap (λ b. c.loop-row.row.items ++ b ∷ []) c.is_some.ensures in
    let shorter = c.in-Some.shorter.now in
    let last = c.in-Some.ensures.cut in
    let utf8 : IsUtf8 shorter = search rules in
    let further : IsUtf8 rest = search rules in
    record {
      is_text = search rules;
      so_far = subst (λ b. IsCut text shorter (λ r. IsSoFar c.args.ignore_case step others text (chars shorter) r b c.push.new.self.items ends.later))
          (sym (c.in_ok-push-2.ensures.items ∙ ap (λ t. t ++ ends.begun ∷ []) (sym c.deref.ensures.value)))
          (subst (λ w. IsCut text shorter (λ r. IsSoFar c.args.ignore_case step others text (chars shorter) r (c.deref.result.now ++ ends.begun ∷ []) w ends.later)) (sym pushed)
          (cut_sooner text front shorter rest last.0 (λ r. IsSoFar c.args.ignore_case step others text (chars shorter) r (c.deref.result.now ++ ends.begun ∷ []) (c.loop-row.row.items ++ is_some ends.whole ∷ []) ends.later)
          last.1 further c.after_prefix-rest.ensures last.2
          (so_far_next c.args.ignore_case step others text front shorter rest last.0 c.deref.result.now c.loop-row.row.items c.loop-row.later ends.begun ends.later ends.whole
          utf8 further last.1 (IsUtf8-encode last.0 last.1) last.2 at.0 at.1)));
    }
