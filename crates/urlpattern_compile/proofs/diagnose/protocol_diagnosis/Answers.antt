use Rattle.std.proofs.Common.{Bor, List, ℕ, Option, Some, ◌+◌, ◌≡◌, ◌≤◌, arith, ap, length, refl, sym, ◌∙◌, subst, inl, inr, rules}
use Rattle.std.proofs.lemmas.Result.{IfOk-weaker}
use Rattle.std.specs.Prelude.{IfNone, IfSome, unwrap_or}
use Rattle.std.specs.Str.{IsUtf8, chars}
use Rattle.urlpattern_constructor.specs.Split.{HasProtocol, LacksProtocol, SplitTextView}
use Rattle.urlpattern_constructor.specs.Splitting.{split_text_view}
use Rattle.urlpattern_constructor.specs.declared.tokens.SplitText.{SplitText}
use Rattle.urlpattern_compile.specs.Diagnoses.{span_from}
use Rattle.urlpattern_compile.proofs.DiagnosisLemmas.{ProtocolPlace, has_span, part_ends, protocol_place, shows_all, span_is}
use Rattle.urlpattern_syntax.proofs.TextLemmas.{byte_len-chars}
use Rattle.urlpattern_syntax.specs.Text.{byte_len}
use Rattle.urlpattern_compile.proofs.diagnose.protocol_diagnosis.Goals as goal

-- The text has the protocol that was found.
has_found : (text : List ℕ) (found : Option SplitText) (protocol : SplitText) → found ≡ Some protocol
    → IfSome found (λ (one : SplitText). HasProtocol (chars text) (λ (other : SplitTextView). other ≡ split_text_view one))
    → HasProtocol (chars text) (λ (other : SplitTextView). other ≡ split_text_view protocol)
has_found text found protocol is has = subst (λ (one : Option SplitText). IfSome one (λ (it : SplitText). HasProtocol (chars text) (λ (other : SplitTextView). other ≡ split_text_view it))) is has

pub span_of-span-requires : goal.span_of-span-requires
span_of-span-requires c =
    let protocol = c.in-Some.protocol in
    let place = protocol_place c.args.text.now protocol (has_found c.args.text.now _ protocol c.in-Some.is c.in-Ok.ensures.protocol) in
    let utf8 : IsUtf8 protocol.text.now = search rules in
    let begins : c.unwrap_or-start.result ≡ place.start = c.unwrap_or-start.ensures ∙ ap (λ (s : Option ℕ). unwrap_or s 0) place.is_start in
    let ends = part_ends c.args.text.now (chars protocol.text.now) place.start c.utf8.text place.there in
    let len = byte_len-chars protocol.text.now utf8 in
    omega (arith, begins, ends, len)

pub returns-in-Some-clause-shows : goal.returns-in-Some-clause-shows
returns-in-Some-clause-shows c =
    let protocol = c.in-Some.protocol in
    let has = has_found c.args.text.now _ protocol c.in-Some.is c.in-Ok.ensures.protocol in
    let place = protocol_place c.args.text.now protocol has in
    let utf8 : IsUtf8 protocol.text.now = search rules in
    let begins : c.unwrap_or-start.result ≡ place.start = c.unwrap_or-start.ensures ∙ ap (λ (s : Option ℕ). unwrap_or s 0) place.is_start in
    let len : length protocol.text.now ≡ byte_len (chars protocol.text.now) = sym (byte_len-chars protocol.text.now utf8) in
    let span : span_from protocol.start (chars protocol.text.now) ≡ Some c.span_of-span.result =
    sym (ap Some c.span_of-span.ensures.span ∙ span_is protocol.start c.unwrap_or-start.result (length protocol.text.now) (chars protocol.text.now) (place.is_start ∙ ap Some (sym begins)) len) in
    IfOk-weaker c.rejected_protocol.result _ _ (λ diagnosis shows. inr (protocol.text.now, c.span_of-span.result, has_span c.args.text.now protocol c.span_of-span.result has span, shows)) c.rejected_protocol.ensures.shows

pub returns-in_ok-whole-in-None-clause-shows : goal.returns-in_ok-whole-in-None-clause-shows
returns-in_ok-whole-in-None-clause-shows c =
    let text = c.args.text.now in
    let made = c.in_ok-whole-in-None.field-0 in
    let is = c.in_ok-whole-in-None.ensures in
    let lacks : LacksProtocol (chars text) = subst (λ (found : Option SplitText). IfNone found (LacksProtocol (chars text))) c.in-None.is c.in-Ok.ensures.lacks in
    inl (lacks, is.subject, shows_all text made is.text is.fault)
