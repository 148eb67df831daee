use Rattle.std.proofs.Common.{◌≡◌, ◌∷◌, sym, ap, ◌∙◌, subst}
use Rattle.urlpattern_steps.specs.declared.step.Step.{Step}
use Rattle.urlpattern_steps.specs.declared.step.Step.TheVariants.{OptionalGroup, RepeatedLiteral}
use Rattle.urlpattern_steps.specs.Walk.{BeginOnlyWith}
use Rattle.urlpattern_steps.proofs.StepLemmas.{stop-any_copies, stop-copies, stop-maybe}
use Rattle.urlpattern_steps.proofs.stops.begin_only_with.Goals as goal

pub loop-step-preserved-in-OptionalGroup-1 : goal.loop-step-preserved-in-OptionalGroup-1
loop-step-preserved-in-OptionalGroup-1 c stops =
    let group = c.in-OptionalGroup.group in
    let others = c.in-Some.others.now in
    let whole : c.loop-step.rest.now ≡ OptionalGroup group ∷ others = c.in-Some.ensures.cases.0 ∙ ap (λ (s : Step). s ∷ others) c.in-OptionalGroup.is in
    c.loop-step.invariant (subst (BeginOnlyWith c.args.end) (sym whole)
    (stop-maybe c.args.end group others (c.begin_with.ensures c.if-not-begin_with.false) (subst (BeginOnlyWith c.args.end) c.skip_steps-rest.ensures stops)))

pub returns-then-not-copies : goal.returns-then-not-copies
returns-then-not-copies c = λ tested.
    let copies = c.in-RepeatedLiteral.copies in
    let others = c.in-Some.others.now in
    let whole : c.loop-step.rest.now ≡ RepeatedLiteral copies ∷ others = c.in-Some.ensures.cases.0 ∙ ap (λ (s : Step). s ∷ others) c.in-RepeatedLiteral.is in
    c.loop-step.invariant (subst (BeginOnlyWith c.args.end) (sym whole) (stop-copies c.args.end copies others c.if-copies-end.false c.if-not-copies.true))

pub loop-step-preserved : goal.loop-step-preserved
loop-step-preserved c stops =
    let copies = c.in-RepeatedLiteral.copies in
    let others = c.in-Some.others.now in
    let whole : c.loop-step.rest.now ≡ RepeatedLiteral copies ∷ others = c.in-Some.ensures.cases.0 ∙ ap (λ (s : Step). s ∷ others) c.in-RepeatedLiteral.is in
    c.loop-step.invariant (subst (BeginOnlyWith c.args.end) (sym whole)
    (stop-any_copies c.args.end copies others c.if-copies-end.false c.if-not-copies.false (subst (BeginOnlyWith c.args.end) c.skip_steps-rest-in-RepeatedLiteral.ensures stops)))
