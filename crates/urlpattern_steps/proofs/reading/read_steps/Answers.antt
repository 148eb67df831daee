use Rattle.std.proofs.Common.{◌≡◌, ℕ, Bool, false, not, Option, Bor, List, drop, ◌++◌, [], ◌∷◌, sym, ap, ◌∙◌, subst, append_assoc, rules, refl, Some, None}
use Rattle.std.specs.Prelude.{IfSome, IsSomeAnd, is_some}
use Rattle.std.proofs.lemmas.Bool.{false≢true}
use Rattle.std.specs.Str.{chars}
use Rattle.urlpattern_steps.specs.declared.step.Step.{Step}
use Rattle.urlpattern_steps.specs.declared.step_tokens.StepToken.TheVariants.{Open, Close, FirstSegment, Step as One, OptionalStep}
use Rattle.urlpattern_steps.specs.declared.step.Group.{Group}
use Rattle.urlpattern_steps.specs.declared.step.Step.TheVariants.{OptionalGroup}
use Rattle.urlpattern_meaning.specs.GeneratedTexts.{IsGenerated}
use Rattle.urlpattern_steps.specs.ReadSteps.{BeginsWithRegexpToken, EndsSegments, IsStepGroup}
use Rattle.urlpattern_steps.proofs.StepReadingLemmas.{IsBegun, begun, begun-close, begun-ends, begun-more, begun-open, segments-spell, spells-once, spells-maybe}
use Rattle.urlpattern_steps.proofs.StepTokenLemmas.{none_of}
use Rattle.urlpattern_steps.proofs.LeftLemmas.{GoesOn, IsLeft, came, ended, left_after}
use Rattle.urlpattern_steps.proofs.reading.read_steps.Goals as goal
use Rattle.urlpattern_steps.proofs.reading.read_steps.Goals.{else-is_none-via-then-is_none+else-is_end, else-is_none-via-else-is_none}

pub loop-token-init : goal.loop-token-init
loop-token-init c = record {
  is_text = search rules;
  so_far = subst (IsBegun (chars c.args.regexp.now) None (chars c.in-Some.rest.now)) (sym c.in_ok-steps.ensures.items) (begun (chars c.args.regexp.now) (chars c.in-Some.rest.now) c.in-Some.ensures.cut);
  to_read = left_after (chars c.args.regexp.now) (chars c.in-Some.rest.now) c.in-Some.ensures.cut;
}

pub loop-token-preserved-in_ok-push-in-Step : goal.loop-token-preserved-in_ok-push-in-Step
loop-token-preserved-in_ok-push-in-Step c =
    let rest = chars c.loop-token.rest.now in
    let remaining = chars c.in-Some-read_token.remaining.now in
    let begins : BeginsWithRegexpToken rest (One c.in-Step.step) remaining = subst (λ t. BeginsWithRegexpToken rest t remaining) c.in-Step.is c.in-Some-read_token.ensures.token in
    let goes_on : IsGenerated (chars c.args.regexp.now) → GoesOn (One c.in-Step.step) c.loop-token.opened remaining c.loop-token.steps.items =
    λ generated. subst (λ t. GoesOn t c.loop-token.opened remaining c.loop-token.steps.items) c.in-Step.is
    (came c.loop-token.opened rest c.loop-token.steps.items c.in-Some-read_token.token remaining (c.loop-token.invariant.to_read generated) c.in-Some-read_token.ensures.token c.in-Some-read_token.ensures.reads) in
    record {
      is_text = search rules;
      so_far = subst (IsBegun (chars c.args.regexp.now) c.loop-token.opened remaining) (sym c.in_ok-push-in-Step.ensures.items)
          (begun-more (chars c.args.regexp.now) c.loop-token.opened rest begins.0 remaining c.loop-token.steps.items (c.in-Step.step ∷ []) c.loop-token.invariant.so_far
          (spells-once c.in-Step.step begins.0 begins.1) begins.2);
      to_read = λ generated. subst (IsLeft c.loop-token.opened remaining) (sym c.in_ok-push-in-Step.ensures.items) (goes_on generated);
    }

pub loop-token-preserved-in_ok-push-in-OptionalStep-2 : goal.loop-token-preserved-in_ok-push-in-OptionalStep-2
loop-token-preserved-in_ok-push-in-OptionalStep-2 c =
    let rest = chars c.loop-token.rest.now in
    let remaining = chars c.in-Some-read_token.remaining.now in
    let step = c.in-OptionalStep.step in
    let group : Group = record { steps = 1; captures = 1 } in
    let begins : BeginsWithRegexpToken rest (OptionalStep step) remaining = subst (λ t. BeginsWithRegexpToken rest t remaining) c.in-OptionalStep.is c.in-Some-read_token.ensures.token in
    let goes_on : IsGenerated (chars c.args.regexp.now) → GoesOn (OptionalStep step) c.loop-token.opened remaining c.loop-token.steps.items =
    λ generated. subst (λ t. GoesOn t c.loop-token.opened remaining c.loop-token.steps.items) c.in-OptionalStep.is
    (came c.loop-token.opened rest c.loop-token.steps.items c.in-Some-read_token.token remaining (c.loop-token.invariant.to_read generated) c.in-Some-read_token.ensures.token c.in-Some-read_token.ensures.reads) in
    let added = c.in_ok-push-in-OptionalStep-2.ensures.items ∙ ap (λ l. l ++ step ∷ []) c.in_ok-push-in-OptionalStep.ensures.items ∙ append_assoc c.loop-token.steps.items (OptionalGroup group ∷ []) (step ∷ []) in
    record {
      is_text = search rules;
      so_far = subst (IsBegun (chars c.args.regexp.now) c.loop-token.opened remaining)
          (sym added)
          (begun-more (chars c.args.regexp.now) c.loop-token.opened rest begins.0 remaining c.loop-token.steps.items (OptionalGroup group ∷ step ∷ []) c.loop-token.invariant.so_far
          (spells-maybe step group begins.0 refl (sym begins.1.1) begins.1) begins.2);
      to_read = λ generated. subst (IsLeft c.loop-token.opened remaining) (sym added) (goes_on generated (OptionalGroup group ∷ step ∷ []));
    }

pub loop-token-preserved-in-FirstSegment : goal.loop-token-preserved-in-FirstSegment
loop-token-preserved-in-FirstSegment c =
    let rest = chars c.loop-token.rest.now in
    let remaining = chars c.in-Some-read_token.remaining.now in
    let after = chars c.in-Some-2.after.now in
    let done = c.loop-token.steps.items in
    let end = c.in-FirstSegment.end in
    let is_greedy = c.in-FirstSegment.is_greedy in
    let begins : BeginsWithRegexpToken rest (FirstSegment end is_greedy) remaining = subst (λ t. BeginsWithRegexpToken rest t remaining) c.in-FirstSegment.is c.in-Some-read_token.ensures.token in
    let read = subst (λ o. IfSome o (λ (after : Bor (List ℕ)). (own : List Step) × EndsSegments end is_greedy own remaining (chars after.now) × (c.read_segments.new.steps.items ≡ done ++ own)))
    c.in-Some-2.is c.in_ok-after-in-FirstSegment.ensures.read in
    let found = subst (λ o. (own : List Step) (behind : List ℕ) → EndsSegments end is_greedy own remaining behind → IsSomeAnd o (λ (after : Bor (List ℕ)). chars after.now ≡ behind))
    c.in-Some-2.is c.in_ok-after-in-FirstSegment.ensures.reads in
    let spells = segments-spell end is_greedy begins.0 begins.1 read.0 remaining after read.1 in
    let goes_on : IsGenerated (chars c.args.regexp.now) → GoesOn (FirstSegment end is_greedy) c.loop-token.opened remaining c.loop-token.steps.items =
    λ generated. subst (λ t. GoesOn t c.loop-token.opened remaining c.loop-token.steps.items) c.in-FirstSegment.is
    (came c.loop-token.opened rest c.loop-token.steps.items c.in-Some-read_token.token remaining (c.loop-token.invariant.to_read generated) c.in-Some-read_token.ensures.token c.in-Some-read_token.ensures.reads) in
    record {
      is_text = search rules;
      so_far = subst (IsBegun (chars c.args.regexp.now) c.loop-token.opened after) (sym read.2)
          (begun-more (chars c.args.regexp.now) c.loop-token.opened rest spells.0 after done read.0 c.loop-token.invariant.so_far spells.1 (begins.2 ∙ spells.2));
      to_read = λ generated.
          let left = goes_on generated in
          let same : after ≡ left.1 = found left.0 left.1 left.2 in
          subst (λ r. IsLeft c.loop-token.opened r c.read_segments.new.steps.items) (sym same) (subst (IsLeft c.loop-token.opened left.1) (sym read.2) (left.3 read.0));
    }

pub loop-token-preserved-in-None : goal.loop-token-preserved-in-None
loop-token-preserved-in-None c =
    let rest = chars c.loop-token.rest.now in
    let remaining = chars c.in-Some-read_token.remaining.now in
    let begins : BeginsWithRegexpToken rest Open remaining = subst (λ t. BeginsWithRegexpToken rest t remaining) c.in-Open.is c.in-Some-read_token.ensures.token in
    let goes_on : IsGenerated (chars c.args.regexp.now) → GoesOn (Open) c.loop-token.opened remaining c.loop-token.steps.items =
    λ generated. subst (λ t. GoesOn t c.loop-token.opened remaining c.loop-token.steps.items) c.in-Open.is
    (came c.loop-token.opened rest c.loop-token.steps.items c.in-Some-read_token.token remaining (c.loop-token.invariant.to_read generated) c.in-Some-read_token.ensures.token c.in-Some-read_token.ensures.reads) in
    record {
      is_text = search rules;
      so_far = subst (λ n. IsBegun (chars c.args.regexp.now) (Some n) remaining c.loop-token.steps.items) (sym (c.len.ensures ∙ c.loop-token.steps.ok.0))
          (begun-open (chars c.args.regexp.now) rest begins.0 remaining c.loop-token.steps.items
          (subst (λ o. IsBegun (chars c.args.regexp.now) o rest c.loop-token.steps.items) c.in-None.is c.loop-token.invariant.so_far) begins.1 begins.2);
      to_read = λ generated. subst (λ n. IsLeft (Some n) remaining c.loop-token.steps.items) (sym (c.len.ensures ∙ c.loop-token.steps.ok.0)) (goes_on generated).1;
    }

pub close_group-requires : goal.close_group-requires
close_group-requires c =
    let so_far = subst (λ o. IsBegun (chars c.args.regexp.now) o (chars c.loop-token.rest.now) c.loop-token.steps.items) c.in-Some-opened-2.is c.loop-token.invariant.so_far in
    so_far.0

pub loop-token-preserved : goal.loop-token-preserved
loop-token-preserved c =
    let rest = chars c.loop-token.rest.now in
    let remaining = chars c.in-Some-read_token.remaining.now in
    let first = c.in-Some-opened-2.first in
    let done = c.loop-token.steps.items in
    let begins : BeginsWithRegexpToken rest (Close c.in-Close.times) remaining = subst (λ t. BeginsWithRegexpToken rest t remaining) c.in-Close.is c.in-Some-read_token.ensures.token in
    let so_far : IsBegun (chars c.args.regexp.now) (Some first) rest done = subst (λ o. IsBegun (chars c.args.regexp.now) o rest done) c.in-Some-opened-2.is c.loop-token.invariant.so_far in
    let group = c.in_ok-close_group-in-Close.ensures.group c.if-not-branch.false in
    let goes_on : IsGenerated (chars c.args.regexp.now) → GoesOn (Close c.in-Close.times) c.loop-token.opened remaining c.loop-token.steps.items =
    λ generated. subst (λ t. GoesOn t c.loop-token.opened remaining c.loop-token.steps.items) c.in-Close.is
    (came c.loop-token.opened rest c.loop-token.steps.items c.in-Some-read_token.token remaining (c.loop-token.invariant.to_read generated) c.in-Some-read_token.ensures.token c.in-Some-read_token.ensures.reads) in
    record {
      is_text = search rules;
      so_far = subst (IsBegun (chars c.args.regexp.now) None remaining) (sym group.2)
          (begun-close (chars c.args.regexp.now) rest begins.0 remaining first c.in-Close.times done group.0 so_far group.1 begins.1 begins.2);
      to_read = λ generated. (goes_on generated).4 c.close_group.new.steps.items;
    }

pub returns-then-is_end-clause-steps : goal.returns-then-is_end-clause-steps
returns-then-is_end-clause-steps c =
    let rest = chars c.loop-token.rest.now in
    let outside : c.loop-token.opened ≡ None = none_of c.loop-token.opened (sym c.if-is_none.ensures) in
    begun-ends (chars c.args.regexp.now) rest c.loop-token.steps.items
    (subst (λ o. IsBegun (chars c.args.regexp.now) o rest c.loop-token.steps.items) outside c.loop-token.invariant.so_far) (c.is_end.ensures.0 c.if-is_end.true)

pub returns-in_default-2-clause-none : goal.returns-in_default-2-clause-none
returns-in_default-2-clause-none c = λ generated.
    let goes_on = subst (λ t. GoesOn t c.loop-token.opened (chars c.in-Some-read_token.remaining.now) c.loop-token.steps.items) c.in-FirstSegment.is
    (came c.loop-token.opened (chars c.loop-token.rest.now) c.loop-token.steps.items c.in-Some-read_token.token (chars c.in-Some-read_token.remaining.now) (c.loop-token.invariant.to_read generated)
    c.in-Some-read_token.ensures.token c.in-Some-read_token.ensures.reads) in
    let found = subst (λ o. (own : List Step) (behind : List ℕ) → EndsSegments c.in-FirstSegment.end c.in-FirstSegment.is_greedy own (chars c.in-Some-read_token.remaining.now) behind
    → IsSomeAnd o (λ (after : Bor (List ℕ)). chars after.now ≡ behind)) c.in_default-2.is c.in_ok-after-in-FirstSegment.ensures.reads in
    found goes_on.0 goes_on.1 goes_on.2

pub returns-in-Some-opened-clause-none : goal.returns-in-Some-opened-clause-none
returns-in-Some-opened-clause-none c = λ generated.
    let goes_on = subst (λ t. GoesOn t c.loop-token.opened (chars c.in-Some-read_token.remaining.now) c.loop-token.steps.items) c.in-Open.is
    (came c.loop-token.opened (chars c.loop-token.rest.now) c.loop-token.steps.items c.in-Some-read_token.token (chars c.in-Some-read_token.remaining.now) (c.loop-token.invariant.to_read generated)
    c.in-Some-read_token.ensures.token c.in-Some-read_token.ensures.reads) in
    cc (goes_on.0, c.in-Some-opened.is)

pub returns-in_default-opened-clause-none : goal.returns-in_default-opened-clause-none
returns-in_default-opened-clause-none c = λ generated.
    let goes_on = subst (λ t. GoesOn t c.loop-token.opened (chars c.in-Some-read_token.remaining.now) c.loop-token.steps.items) c.in-Close.is
    (came c.loop-token.opened (chars c.loop-token.rest.now) c.loop-token.steps.items c.in-Some-read_token.token (chars c.in-Some-read_token.remaining.now) (c.loop-token.invariant.to_read generated)
    c.in-Some-read_token.ensures.token c.in-Some-read_token.ensures.reads) in
    cc (goes_on.2, c.in_default-opened.is)

pub returns-then-not-branch-clause-none : goal.returns-then-not-branch-clause-none
returns-then-not-branch-clause-none c = λ generated.
    let goes_on = subst (λ t. GoesOn t c.loop-token.opened (chars c.in-Some-read_token.remaining.now) c.loop-token.steps.items) c.in-Close.is
    (came c.loop-token.opened (chars c.loop-token.rest.now) c.loop-token.steps.items c.in-Some-read_token.token (chars c.in-Some-read_token.remaining.now) (c.loop-token.invariant.to_read generated)
    c.in-Some-read_token.ensures.token c.in-Some-read_token.ensures.reads) in
    let same : goes_on.0 ≡ c.in-Some-opened-2.first = cc (goes_on.2, c.in-Some-opened-2.is) in
    let is_group = subst (λ n. IsStepGroup c.in-Close.times (drop n c.loop-token.steps.items) goes_on.1) same goes_on.3 in
    false≢true (sym c.if-not-branch.true ∙ c.in_ok-close_group-in-Close.ensures.any goes_on.1 is_group)

outside : (opened : Option ℕ) (is_none : Bool) → is_some opened ≡ not is_none → is_none ≡ false → ¬ (opened ≡ None)
outside None is_none e f none = false≢true (e ∙ ap not f)
outside (Some first) is_none e f none = cc none

pub returns-else-is_none-clause-none : goal.returns-else-is_none-clause-none
returns-else-is_none-clause-none c = λ generated.
    let end = ended c.loop-token.opened (chars c.loop-token.rest.now) c.loop-token.steps.items (c.loop-token.invariant.to_read generated) c.in_default-read_token.ensures.reads in
    elim c.else-is_none.branch [
      | else-is_none-via-then-is_none+else-is_end w ↦ false≢true (sym w.if-is_end.false ∙ w.is_end.ensures.1 end.1)
      | else-is_none-via-else-is_none w ↦ outside c.loop-token.opened c.is_none.result c.is_none.ensures w.if-is_none.false end.0
    ]
