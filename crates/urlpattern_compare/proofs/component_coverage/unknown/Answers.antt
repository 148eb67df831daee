use Rattle.std.proofs.Common.{◌∙◌, sym, subst}
use Rattle.urlpattern_compare.proofs.AnswerLemmas.{in_none, in_some}
use Rattle.urlpattern_compare.proofs.ComponentLemmas.{missed_unknown, parts_unknown}
use Rattle.urlpattern_compare.specs.Answers.{AreKnown, AreUnknownBy}
use Rattle.urlpattern_syntax.specs.Options.{options_view}
use Rattle.urlpattern_syntax.specs.Parts.{parts_view}
use Rattle.urlpattern_compare.proofs.component_coverage.unknown.Goals as goal

pub returns-then-misses_case-clause-reason : goal.returns-then-misses_case-clause-reason
returns-then-misses_case-clause-reason c = missed_unknown c.args.component.now (sym c.misses_case.ensures ∙ c.if-misses_case.true)

pub returns-in-Some-clause-reason : goal.returns-in-Some-clause-reason
returns-in-Some-clause-reason c =
    let options = options_view c.args.component.now.options in
    let is = in_some (AreUnknownBy options (parts_view c.deref.result.now)) c.in_ok-reason.field-0 c.in-Some.reason c.in-Some.is c.in_ok-reason.ensures.reason in
    parts_unknown c.args.component.now c.in-Some.reason (subst (λ parts. AreUnknownBy options (parts_view parts) c.in-Some.reason) c.deref.ensures.value is)

pub returns-in-None-clause-known : goal.returns-in-None-clause-known
returns-in-None-clause-known c =
    let options = options_view c.args.component.now.options in
    let known = in_none (AreKnown options (parts_view c.deref.result.now)) c.in_ok-reason.field-0 c.in-None.is c.in_ok-reason.ensures.known in
    record {
      parts = subst (λ parts. AreKnown options (parts_view parts)) c.deref.ensures.value known;
      case = sym c.misses_case.ensures ∙ c.if-misses_case.false;
    }
