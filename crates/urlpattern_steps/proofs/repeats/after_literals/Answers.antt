use Rattle.std.proofs.Common.{◌≡◌, ◌∷◌, sym, ap, ◌∙◌, subst, rules}
use Rattle.std.specs.Str.{chars}
use Rattle.urlpattern_steps.specs.declared.step.Step.{Step}
use Rattle.urlpattern_steps.specs.declared.step.Step.TheVariants.{Literal}
use Rattle.urlpattern_steps.specs.Walk.{BeginsAs, literals}
use Rattle.urlpattern_steps.proofs.CopyLemmas.{literals_skip}
use Rattle.urlpattern_steps.proofs.SameLemmas.{begins_first, begins_less, begins_more, begins_one, if_none}
use Rattle.urlpattern_steps.proofs.repeats.after_literals.Goals as goal

pub loop-step-init : goal.loop-step-init
loop-step-init c =
    let first = c.args.first in
    let literal = literals c.args.literal.now in
    let text = chars c.args.text.now in
    let rest = chars c.in_ok-rest.rest.now in
    let one = begins_one c.args.ignore_case first text rest c.in_ok-rest.ensures.cut in
    record {
      is_text = search rules;
      there = λ end begins. subst (λ t. BeginsAs c.args.ignore_case (first ∷ literal) t end) (sym one.1) (begins_more c.args.ignore_case first literal one.0 rest end one.2 begins);
      back = λ end begins. (begins_less c.args.ignore_case first literal one.0 rest end (subst (λ t. BeginsAs c.args.ignore_case (first ∷ literal) t end) one.1 begins)).1;
      shorter = search rules;
    }

pub returns-in_err-rest-clause-other : goal.returns-in_err-rest-clause-other
returns-in_err-rest-clause-other c =
    if_none c.from_residual.result _
    (λ end begins.
    let first = begins_first c.args.ignore_case c.args.first (literals c.args.literal.now) (chars c.args.text.now) end begins in
    c.in_err-rest.ensures.other first.0 first.1)

pub returns-in_default-after_same-clause-other : goal.returns-in_default-after_same-clause-other
returns-in_default-after_same-clause-other c = λ end begins.
    let rest = chars c.loop-step.rest.now in
    let others = c.in-Some.others.now in
    let left : c.loop-step.left.now ≡ Literal c.in-Literal.c ∷ others = c.in-Some.ensures.cases.0 ∙ ap (λ (s : Step). s ∷ others) c.in-Literal.is in
    let behind = subst (λ l. BeginsAs c.args.ignore_case (literals l) rest end) left (c.loop-step.invariant.back end begins) in
    let first = begins_first c.args.ignore_case c.in-Literal.c (literals others) rest end behind in
    c.in_default-after_same.ensures.other first.0 first.1

pub loop-step-preserved-in-Some-after_same : goal.loop-step-preserved-in-Some-after_same
loop-step-preserved-in-Some-after_same c =
    let d = c.in-Literal.c in
    let rest = chars c.loop-step.rest.now in
    let remaining = chars c.in-Some-after_same.remaining.now in
    let others = c.in-Some.others.now in
    let left : c.loop-step.left.now ≡ Literal d ∷ others = c.in-Some.ensures.cases.0 ∙ ap (λ (s : Step). s ∷ others) c.in-Literal.is in
    let one = begins_one c.args.ignore_case d rest remaining c.in-Some-after_same.ensures.cut in
    record {
      is_text = search rules;
      there = λ end begins.
          c.loop-step.invariant.there end
          (subst (λ l. BeginsAs c.args.ignore_case (literals l) rest end) (sym left)
          (subst (λ t. BeginsAs c.args.ignore_case (d ∷ literals others) t end) (sym one.1) (begins_more c.args.ignore_case d (literals others) one.0 remaining end one.2 begins)));
      back = λ end begins.
          let behind = subst (λ l. BeginsAs c.args.ignore_case (literals l) rest end) left (c.loop-step.invariant.back end begins) in
          (begins_less c.args.ignore_case d (literals others) one.0 remaining end (subst (λ t. BeginsAs c.args.ignore_case (d ∷ literals others) t end) one.1 behind)).1;
      shorter = search rules;
    }

pub loop-step-preserved : goal.loop-step-preserved
loop-step-preserved c =
    let rest = chars c.loop-step.rest.now in
    let others = c.in-Some.others.now in
    let same = ap literals c.in-Some.ensures.cases.0 ∙ literals_skip c.in-Some.step.now others c.in_default-step.not-Literal in
    record {
      is_text = search rules;
      there = λ end begins. c.loop-step.invariant.there end (subst (λ l. BeginsAs c.args.ignore_case l rest end) (sym same) begins);
      back = λ end begins. subst (λ l. BeginsAs c.args.ignore_case l rest end) same (c.loop-step.invariant.back end begins);
      shorter = search rules;
    }
