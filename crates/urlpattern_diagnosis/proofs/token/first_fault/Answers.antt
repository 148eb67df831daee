use Rattle.std.proofs.Common.{◌≡◌, ◌-◌, ◌∙◌, Bool, false, Option, Some, None, refl, sym, ap, subst, take, arith}
use Rattle.std.specs.Prelude.{IsSomeAnd, MatchBool, MatchOption}
use Rattle.std.specs.Str.{chars}
use Rattle.urlpattern_diagnosis.specs.Faults.{IsSpanOfToken, IsStopBefore, is_end_kind}
use Rattle.urlpattern_diagnosis.specs.declared.span.Span.{Span}
use Rattle.urlpattern_diagnosis.proofs.TokenFaultLemmas.{ends_from, is_none}
use Rattle.urlpattern_syntax.specs.Stops.{IsStopOf}
use Rattle.urlpattern_syntax.specs.Tokens.{fault_view, token_view}
use Rattle.urlpattern_diagnosis.proofs.token.first_fault.Goals as goal

pub range-requires-clause-end_boundary : goal.range-requires-clause-end_boundary
range-requires-clause-end_boundary c = (ends_from c.args.text.now (fault_view c.args.fault.now) c.args.place c.requires c.utf8.text).boundary

pub returns-clause-fault : goal.returns-clause-fault
returns-clause-fault c =
    let text = c.args.text.now in
    let point = chars c.args.prefix_code_point.now in
    let stop = c.in-Ok.stop in
    let alone = c.token_fault-alone.result in
    let earlier : Option Span = Some c.span_of.result in
    let none : alone.earlier ≡ None = is_none alone.earlier c.in_default.not-Some in
    let count : c.args.place - 0 ≡ c.args.place = omega arith in
    let stops : IsStopOf (chars (take c.args.place text)) point (token_view stop.first) (token_view stop.found) =
    subst (λ front. IsStopOf (chars front) point (token_view stop.first) (token_view stop.found)) (c.range.ensures.value ∙ ap (λ n. take n text) count) c.in-Ok.ensures.stops in
    let goes_on : is_end_kind stop.found.kind ≡ false = sym c.is_end.ensures ∙ c.if-is_end.false in
    let is : IsStopBefore text point c.args.place earlier =
    (stop, stops, subst (λ (b : Bool). MatchBool b (earlier ≡ None) (IsSomeAnd earlier (IsSpanOfToken text stop.found))) (sym goes_on) c.span_of.ensures.span) in
    (alone, c.token_fault-alone.ensures.fault, (refl, subst (λ (other : Option Span). MatchOption other (IsStopBefore text point c.args.place earlier) (λ span. earlier ≡ Some span)) (sym none) is))
