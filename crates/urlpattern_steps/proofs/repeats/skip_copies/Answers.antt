use Rattle.std.proofs.Common.{◌∷◌, ◌++◌, sym, ap, ◌∙◌, append_assoc, rules}
use Rattle.std.specs.Str.{chars}
use Rattle.urlpattern_steps.specs.Walk.{in_turn}
use Rattle.urlpattern_steps.proofs.repeats.skip_copies.Goals as goal

pub loop-remaining-preserved : goal.loop-remaining-preserved
loop-remaining-preserved c =
    let so_far = c.loop-remaining.invariant.front in
    let last = c.in-Some.ensures.cut in
    record {
      is_text = search rules;
      front = (
        last.0 ∷ so_far.0,
        so_far.1 ∙ ap (λ t. in_turn so_far.0 ++ t) last.1 ∙ sym (append_assoc (in_turn so_far.0) last.0 (chars c.in-Some.remaining.now)),
        (last.2, so_far.2),
      );
    }
