use Rattle.std.proofs.Common.{codes, ◌++◌, refl, ap, ◌∙◌, subst}
use Rattle.std.specs.Str.{chars}
use Rattle.urlpattern_steps.specs.ReadSteps.{BeginsWithCaptured, IsRead, IsUnquantified}
use Rattle.urlpattern_steps.proofs.StepTokenLemmas.{captured-spells, captured-maybe}
use Rattle.std.specs.Prelude.{List, ℕ, ◌≡◌}
use Rattle.urlpattern_steps.specs.declared.step.Step.{Step}
use Rattle.urlpattern_steps.specs.declared.step_tokens.StepToken.TheVariants.{Step as One, OptionalStep}
use Rattle.urlpattern_steps.proofs.PrefixLemmas.{by_bracket}
use Rattle.urlpattern_steps.proofs.step_tokens.read_bracket.Goals as goal

pub returns-clause-token : goal.returns-clause-token
returns-clause-token c =
    let step : BeginsWithCaptured (chars c.args.text.now) c.in_ok-step.step (chars c.in_ok-step.rest.now) = rw (c.in_ok-step.step-is, c.in_ok-step.rest-is) c.in_ok-step.ensures.step in
    captured-spells (chars c.args.text.now) (chars c.in_ok-step.rest.now) (chars c.in_ok-rest.rest.now) c.in_ok-step.step step c.in_ok-rest.ensures.cut

pub returns-in-Some-after-clause-token : goal.returns-in-Some-after-clause-token
returns-in-Some-after-clause-token c =
    let step : BeginsWithCaptured (chars c.args.text.now) c.in_ok-step.step (chars c.in_ok-step.rest.now) = rw (c.in_ok-step.step-is, c.in_ok-step.rest-is) c.in_ok-step.ensures.step in
    captured-maybe (chars c.args.text.now) (chars c.in_ok-step.rest.now) (chars c.in_ok-rest.rest.now) (chars c.in-Some-after.remaining.now) c.in_ok-step.step step c.in_ok-rest.ensures.cut c.in-Some-after.ensures.cut

pub returns-in-Some-clause-token : goal.returns-in-Some-clause-token
returns-in-Some-clause-token c =
    (codes "(?:", refl, ap (λ t. codes "(" ++ t) (c.in-Some.ensures.cut ∙ ap (λ t. codes "?" ++ t) c.in_ok-after.ensures.cut))

pub returns-in-Some-read_first_segment-clause-reads :
    goal.returns-in-Some-read_first_segment-clause-reads
returns-in-Some-read_first_segment-clause-reads c =
    by_bracket (λ token rest. IsUnquantified rest → (c.in-Some-read_first_segment.token ≡ token) × (chars c.in-Some-read_first_segment.remaining.now ≡ rest)) (chars c.args.text.now)
    (λ rest e q. absurd (c.in_default.ensures.other (codes ":" ++ rest) e))
    (λ step rest begins q. cc (c.in-Some-read_first_segment.ensures.other step (codes ")" ++ rest) begins))
    (λ step rest begins q. cc (c.in-Some-read_first_segment.ensures.other step (codes ")?" ++ rest) begins))
    (λ end is_greedy rest begins q.
    rw (c.in-Some-read_first_segment.token-is, c.in-Some-read_first_segment.remaining-is) (c.in-Some-read_first_segment.ensures.reads end is_greedy rest begins))

pub returns-in_err-step-clause-reads : goal.returns-in_err-step-clause-reads
returns-in_err-step-clause-reads c =
    by_bracket (λ token rest. IsUnquantified rest → IsRead c.from_residual-in_err-step.result token rest) (chars c.args.text.now)
    (λ rest e q. absurd (c.in_default.ensures.other (codes ":" ++ rest) e))
    (λ step rest begins q. absurd (c.in_err-step.ensures.reads step (codes ")" ++ rest) begins))
    (λ step rest begins q. absurd (c.in_err-step.ensures.reads step (codes ")?" ++ rest) begins))
    (λ end is_greedy rest begins q. absurd (c.in_default-read_first_segment.ensures.reads end is_greedy rest begins))

pub returns-in_err-rest-clause-reads : goal.returns-in_err-rest-clause-reads
returns-in_err-rest-clause-reads c =
    let same = λ (step : Step) (behind : List ℕ) (begins : BeginsWithCaptured (chars c.args.text.now) step behind).
    let found : (c.in_ok-step.step ≡ step) × (chars c.in_ok-step.rest.now ≡ behind) = rw (c.in_ok-step.step-is, c.in_ok-step.rest-is) (c.in_ok-step.ensures.reads step behind begins) in found in
    by_bracket (λ token rest. IsUnquantified rest → IsRead c.from_residual-in_err-rest.result token rest) (chars c.args.text.now)
    (λ rest e q. absurd (c.in_default.ensures.other (codes ":" ++ rest) e))
    (λ step rest begins q. absurd (c.in_err-rest.ensures.other rest (same step (codes ")" ++ rest) begins).1))
    (λ step rest begins q. absurd (c.in_err-rest.ensures.other (codes "?" ++ rest) (same step (codes ")?" ++ rest) begins).1))
    (λ end is_greedy rest begins q. absurd (c.in_default-read_first_segment.ensures.reads end is_greedy rest begins))

pub returns-in-Some-after-clause-reads : goal.returns-in-Some-after-clause-reads
returns-in-Some-after-clause-reads c =
    let same = λ (step : Step) (behind : List ℕ) (begins : BeginsWithCaptured (chars c.args.text.now) step behind).
    let found : (c.in_ok-step.step ≡ step) × (chars c.in_ok-step.rest.now ≡ behind) = rw (c.in_ok-step.step-is, c.in_ok-step.rest-is) (c.in_ok-step.ensures.reads step behind begins) in found in
    let cut = c.in_ok-rest.ensures.cut in
    let asked = c.in-Some-after.ensures.cut in
    by_bracket (λ token rest. IsUnquantified rest → (OptionalStep c.in_ok-step.step ≡ token) × (chars c.in-Some-after.remaining.now ≡ rest)) (chars c.args.text.now)
    (λ rest e q. absurd (c.in_default.ensures.other (codes ":" ++ rest) e))
    (λ step rest begins q.
    let found : chars c.in_ok-step.rest.now ≡ codes ")" ++ rest = (same step (codes ")" ++ rest) begins).1 in
    let behind : rest ≡ codes "?" ++ chars c.in-Some-after.remaining.now = cc in
    absurd (subst IsUnquantified behind q refl))
    (λ step rest begins q.
    let found = same step (codes ")?" ++ rest) begins in
    let left : chars c.in_ok-step.rest.now ≡ codes ")?" ++ rest = found.1 in
    (ap OptionalStep found.0, cc))
    (λ end is_greedy rest begins q. absurd (c.in_default-read_first_segment.ensures.reads end is_greedy rest begins))

pub returns-clause-reads : goal.returns-clause-reads
returns-clause-reads c =
    let same = λ (step : Step) (behind : List ℕ) (begins : BeginsWithCaptured (chars c.args.text.now) step behind).
    let found : (c.in_ok-step.step ≡ step) × (chars c.in_ok-step.rest.now ≡ behind) = rw (c.in_ok-step.step-is, c.in_ok-step.rest-is) (c.in_ok-step.ensures.reads step behind begins) in found in
    let cut = c.in_ok-rest.ensures.cut in
    by_bracket (λ token rest. IsUnquantified rest → (One c.in_ok-step.step ≡ token) × (chars c.in_ok-rest.rest.now ≡ rest)) (chars c.args.text.now)
    (λ rest e q. absurd (c.in_default.ensures.other (codes ":" ++ rest) e))
    (λ step rest begins q.
    let found = same step (codes ")" ++ rest) begins in
    let left : chars c.in_ok-step.rest.now ≡ codes ")" ++ rest = found.1 in
    (ap One found.0, cc))
    (λ step rest begins q.
    let found : chars c.in_ok-step.rest.now ≡ codes ")?" ++ rest = (same step (codes ")?" ++ rest) begins).1 in
    let behind : chars c.in_ok-rest.rest.now ≡ codes "?" ++ rest = cc in
    absurd (c.in_default-after.ensures.other rest behind))
    (λ end is_greedy rest begins q. absurd (c.in_default-read_first_segment.ensures.reads end is_greedy rest begins))
