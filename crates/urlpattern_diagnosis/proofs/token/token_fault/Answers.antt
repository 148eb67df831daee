use Rattle.std.proofs.Common.{◌≡◌, ◌-◌, length, refl, sym, ap, ◌∙◌, subst}
use Rattle.std.specs.Str.{chars}
use Rattle.urlpattern_diagnosis.specs.Faults.{IsSingleSpan}
use Rattle.urlpattern_diagnosis.specs.Spans.{IsSpanAt}
use Rattle.urlpattern_diagnosis.proofs.TokenFaultLemmas.{body_faulty, body_found, ends_from, escape_found}
use Rattle.urlpattern_meaning.proofs.BodyStartTokens.{no_fault}
use Rattle.urlpattern_syntax.specs.Tokens.{IsFaultAt, fault_view, regex_fault_text}
use Rattle.urlpattern_diagnosis.proofs.token.token_fault.Goals as goal

pub range_from-requires : goal.range_from-requires
range_from-requires c = λ some. (ends_from c.args.text.now (fault_view c.args.fault.now) c.args.place c.requires c.utf8.text).boundary

pub body_fault-requires-clause-faulty : goal.body_fault-requires-clause-faulty
body_fault-requires-clause-faulty c =
    let ends = ends_from c.args.text.now (fault_view c.args.fault.now) c.args.place c.requires c.utf8.text in
    let left : chars c.range_from.result.now ≡ c.requires.left = ends.characters c.range_from.result.now c.range_from.utf8 c.range_from.ensures.value in
    body_faulty c.requires.left (chars c.in-Some.body.now) c.in-Some.field-0-0 (fault_view c.args.fault.now) (regex_fault_text c.in-InvalidRegex.field-0) c.requires.fault
    (ap fault_view c.in-InvalidRegex.is) (sym left ∙ c.in-Some.ensures.cut)

pub returns-in-IncompleteEscapeCode-clause-fault : goal.returns-in-IncompleteEscapeCode-clause-fault
returns-in-IncompleteEscapeCode-clause-fault c =
    let text = c.args.text.now in
    escape_found c.args.component text c.args.place (fault_view c.args.fault.now) c.requires c.of_span.result c.utf8.text (ap fault_view c.in-IncompleteEscapeCode.is)
    (subst (IsSingleSpan (IsSpanAt text (length text - 1) 1)) (sym c.of_span.ensures) (subst (λ start. IsSpanAt text start 1 c.at.result) c.saturating_sub.ensures c.at.ensures.at, refl))

pub returns-in-Some-clause-fault : goal.returns-in-Some-clause-fault
returns-in-Some-clause-fault c =
    let ends = ends_from c.args.text.now (fault_view c.args.fault.now) c.args.place c.requires c.utf8.text in
    let left : chars c.range_from.result.now ≡ c.requires.left = ends.characters c.range_from.result.now c.range_from.utf8 c.range_from.ensures.value in
    body_found c.args.component c.args.text.now (chars c.in-Some.body.now) c.args.place c.in-Some.field-0-0 (fault_view c.args.fault.now) (regex_fault_text c.in-InvalidRegex.field-0) c.requires c.body_fault.result
    (ap fault_view c.in-InvalidRegex.is) (sym left ∙ c.in-Some.ensures.cut) c.body_fault.ensures.fault

pub returns-in-None-clause-fault : goal.returns-in-None-clause-fault
returns-in-None-clause-fault c =
    let ends = ends_from c.args.text.now (fault_view c.args.fault.now) c.args.place c.requires c.utf8.text in
    let left : chars c.range_from.result.now ≡ c.requires.left = ends.characters c.range_from.result.now c.range_from.utf8 c.range_from.ensures.value in
    absurd (no_fault (fault_view c.args.fault.now) (subst (λ x. IsFaultAt x (fault_view c.args.fault.now)) (sym left ∙ c.in-None.ensures.empty) c.requires.fault))
