use Rattle.std.proofs.Common.{◌∷◌, length, drop, sym, refl, subst, inr, ◌∙◌}
use Rattle.std.proofs.lemmas.List.{take-append-drop}
use Rattle.urlpattern_steps.specs.declared.step.Step.TheVariants.{OptionalGroup}
use Rattle.urlpattern_steps.specs.ReadSteps.{IsStepGroup, IsSomeGroup}
use Rattle.urlpattern_steps.specs.Walk.{capture_count}
use Rattle.urlpattern_steps.proofs.StepGroupLemmas.{inserted, some_group}
use Rattle.urlpattern_steps.proofs.reading.close_group.Goals as goal

pub returns-in-Once-clause-group : goal.returns-in-Once-clause-group
returns-in-Once-clause-group c = λ t.
    let own = drop c.args.first c.args.steps.now.items in
    (own, subst (λ times. IsStepGroup times own own) (sym c.in-Once.is) (inr refl), sym (take-append-drop c.args.first c.args.steps.now.items))

pub returns-in_ok-insert-in-Optional-clause-group :
    goal.returns-in_ok-insert-in-Optional-clause-group
returns-in_ok-insert-in-Optional-clause-group c = λ t.
    let done = c.args.steps.now.items in
    let own = drop c.args.first done in
    let group = OptionalGroup (record { steps = length own; captures = capture_count own }) ∷ own in (
      group,
      subst (λ times. IsStepGroup times own group) (sym c.in-Optional.is) (inr refl),
      c.in_ok-insert-in-Optional.ensures.items ∙ inserted done c.deref.result.now c.args.first c.counted_group-group.result c.deref.ensures.value c.counted_group-group.ensures,
    )

pub returns-in-ZeroOrMore-clause-any : goal.returns-in-ZeroOrMore-clause-any
returns-in-ZeroOrMore-clause-any c = λ group is.
    let done = c.args.steps.now.items in
    let some = some_group done c.args.first c.args.times group c.requires (λ e. c.if-len-first.false (c.len.ensures ∙ c.args.steps.now.ok.0 ∙ e)) is in
    c.close_copies.ensures.any group (subst (λ times. IsSomeGroup times (drop c.args.first done) group) c.in-ZeroOrMore.is some)

pub returns-in-OneOrMore-clause-any : goal.returns-in-OneOrMore-clause-any
returns-in-OneOrMore-clause-any c = λ group is.
    let done = c.args.steps.now.items in
    let some = some_group done c.args.first c.args.times group c.requires (λ e. c.if-len-first.false (c.len.ensures ∙ c.args.steps.now.ok.0 ∙ e)) is in
    c.close_copies-in-OneOrMore.ensures.any group (subst (λ times. IsSomeGroup times (drop c.args.first done) group) c.in-OneOrMore.is some)
