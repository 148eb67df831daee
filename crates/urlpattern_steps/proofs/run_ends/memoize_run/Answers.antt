use Rattle.std.proofs.Common.{◌≡◌, ◌∷◌, [], None, sym, ap, ◌∙◌, rules}
use Rattle.std.specs.Str.{chars}
use Rattle.urlpattern_steps.specs.declared.step.Step.TheVariants.{LazyRun}
use Rattle.urlpattern_steps.specs.Walk.{walk}
use Rattle.urlpattern_steps.proofs.FailedLemmas.{ends_same, place_within}
use Rattle.urlpattern_steps.proofs.RunLemmas.{shortest_later}
use Rattle.urlpattern_steps.proofs.run_ends.memoize_run.Goals as goal

pub loop-remaining-preserved : goal.loop-remaining-preserved
loop-remaining-preserved c =
    let steps = c.args.steps.now in
    let rest = chars c.loop-remaining.rest.now in
    let remaining = chars c.in-Some.remaining.now in
    let d = c.in-Some.field-0-0 in
    let others = c.requires.first.0 in
    let dead : walk c.args.ignore_case (LazyRun c.args.end ∷ others) (d ∷ remaining) ≡ None =
    ap (walk c.args.ignore_case (LazyRun c.args.end ∷ others)) (sym c.in-Some.ensures.cut) ∙ ap (λ s. walk c.args.ignore_case s rest) (sym c.requires.first.1) ∙ c.loop-remaining.invariant.dead in
    record {
      is_text = search rules;
      place = place_within c.args.ignore_case c.loop-remaining.failed c.insert.new.self steps steps rest remaining c.insert.ensures c.loop-remaining.invariant.place (ends_same steps)
          (d ∷ [], c.in-Some.ensures.cut);
      dead = ap (λ s. walk c.args.ignore_case s remaining) c.requires.first.1 ∙ shortest_later c.args.ignore_case c.args.end (walk c.args.ignore_case others) d remaining c.in-Some.ensures.other dead;
      whole = c.insert.ensures ∙ c.loop-remaining.invariant.whole;
    }
