use Rattle.std.proofs.Common.{◌≡◌, ◌∷◌, ◌++◌, [], refl, sym, ap, ◌∙◌, append_assoc, rules}
use Rattle.std.proofs.lemmas.List.{append_cancel_right}
use Rattle.std.specs.Str.{chars, IsUtf8}
use Rattle.urlpattern_steps.specs.Walk.{up_to_first}
use Rattle.urlpattern_syntax.specs.Text.{line_feed}
use Rattle.urlpattern_steps.proofs.FailedLemmas.{ends_same, place_within}
use Rattle.urlpattern_steps.proofs.FollowLemmas.{bytes_join}
use Rattle.urlpattern_steps.proofs.RunLemmas.{lacks_more}
use Rattle.urlpattern_steps.proofs.run_ends.longest_prefix.Goals as goal

pub next_of_run-requires : goal.next_of_run-requires
next_of_run-requires c =
    let steps = c.args.steps.now in
    let so_far = c.loop-remaining.invariant.so_far in
    place_within c.args.ignore_case c.args.failed.now c.args.failed.now steps steps (chars c.args.text.now) (chars c.loop-remaining.rest.now) refl c.requires (ends_same steps) (so_far.0, so_far.1)

pub loop-remaining-preserved : goal.loop-remaining-preserved
loop-remaining-preserved c =
    let so_far = c.loop-remaining.invariant.so_far in
    let d = c.in-Some.field-0-0 in
    record {
      is_text = search rules;
      so_far = (
        so_far.0 ++ d ∷ [],
        so_far.1 ∙ ap (λ r. so_far.0 ++ r) c.in-Some.ensures.cut ∙ sym (append_assoc so_far.0 (d ∷ []) (chars c.in-Some.remaining.now)),
        lacks_more c.args.ignore_case line_feed so_far.0 d so_far.2 c.in-Some.ensures.other,
      );
    }

pub returns : goal.returns
returns c =
    let text = c.args.text.now in
    let rest = c.loop-remaining.rest.now in
    let front = c.before-2.result.now in
    let so_far = c.loop-remaining.invariant.so_far in
    let whole : IsUtf8 text = search rules in
    let utf8 : IsUtf8 front = search rules in
    let further : IsUtf8 rest = search rules in
    let same : chars front ≡ so_far.0 = append_cancel_right (chars front) so_far.0 (chars rest) (sym c.before-2.ensures ∙ so_far.1) in (
      rest,
      further,
      bytes_join text front rest whole utf8 further c.before-2.ensures,
      ap (up_to_first c.args.ignore_case line_feed) same ∙ so_far.2 ∙ sym same,
      c.in_default.ensures.none,
    )
