use Rattle.std.proofs.lemmas.Result.{IfOk-weaker}
use Rattle.urlpattern_compare.proofs.AnswerLemmas.{in_none, in_some}
use Rattle.urlpattern_compare.proofs.ComponentLemmas.{first_unknown, later_known, later_unknown, other_unknown}
use Rattle.urlpattern_compare.specs.Comparing.{IsKnown, IsUnknownBy}
use Rattle.urlpattern_compare.proofs.component_coverage.unknown_with.Goals as goal

pub returns-in-Some-clause-reason : goal.returns-in-Some-clause-reason
returns-in-Some-clause-reason c =
    let component = c.args.component.now in
    other_unknown c.args.other.now component c.in-Some.reason (in_some (IsUnknownBy component) c.in_ok-reason.field-0 c.in-Some.reason c.in-Some.is c.in_ok-reason.ensures.reason)

pub returns-in-Some-clause-shared : goal.returns-in-Some-clause-shared
returns-in-Some-clause-shared c =
    let component = c.args.component.now in
    first_unknown component c.args.other.now c.in-Some.reason (in_some (IsUnknownBy component) c.in_ok-reason.field-0 c.in-Some.reason c.in-Some.is c.in_ok-reason.ensures.reason)

pub returns-in-None-clause-known : goal.returns-in-None-clause-known
returns-in-None-clause-known c =
    let component = c.args.component.now in
    let known = in_none (IsKnown component) c.in_ok-reason.field-0 c.in-None.is c.in_ok-reason.ensures.known in
    IfOk-weaker c.unknown-in-None.result _ _ (λ found. later_known component c.args.other.now found known) c.unknown-in-None.ensures.known

pub returns-in-None-clause-reason : goal.returns-in-None-clause-reason
returns-in-None-clause-reason c =
    IfOk-weaker c.unknown-in-None.result _ _ (λ found is. (later_unknown c.args.component.now c.args.other.now found is).1) c.unknown-in-None.ensures.reason

pub returns-in-None-clause-shared : goal.returns-in-None-clause-shared
returns-in-None-clause-shared c =
    IfOk-weaker c.unknown-in-None.result _ _ (λ found is. (later_unknown c.args.component.now c.args.other.now found is).0) c.unknown-in-None.ensures.reason
