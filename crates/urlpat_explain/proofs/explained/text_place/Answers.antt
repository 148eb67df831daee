use Rattle.std.proofs.Common.{◌≡◌, ◌==◌, ◌∙◌, ℕ, List, Option, Some, ap, arith, false, length, rules, subst, sym, true}
use Rattle.std.specs.Prelude.{IfSome, IsSomeAnd}
use Rattle.std.specs.Str.{IsUtf8, chars}
use Rattle.urlpat_explain.proofs.ComponentPlaceLemmas.{place-empty, place-from}
use Rattle.urlpat_explain.specs.ComponentPlaces.{text_place}
use Rattle.urlpattern_compile.proofs.DiagnosisLemmas.{part_ends, span_is}
use Rattle.urlpattern_compile.specs.Diagnoses.{span_from}
use Rattle.urlpattern_components.specs.Eight.{at}
use Rattle.urlpattern_constructor.specs.Splitting.{HasPartAt}
use Rattle.urlpattern_init.specs.Inheritance.{values_view}
use Rattle.urlpattern_syntax.proofs.TextLemmas.{byte_len-chars}
use Rattle.urlpattern_syntax.specs.Text.{option_text}
use Rattle.urlpat_explain.proofs.explained.text_place.Goals as goal

pub returns-in_err-text : goal.returns-in_err-text
returns-in_err-text c =
    c.from_residual.ensures ∙ ap (λ (given : Option (List ℕ)). text_place given (at c.args.starts.now c.args.name)) c.in_err-text.ensures

pub returns-then-is_empty : goal.returns-then-is_empty
returns-then-is_empty c =
    let none : (length c.in_ok-text.text.now == 0) ≡ true = search rules in
    place-empty c.in_ok-text.text.now _ (at c.args.starts.now c.args.name) (ap option_text (sym c.in_ok-text.was) ∙ c.get.ensures) none

pub returns-in_err-first : goal.returns-in_err-first
returns-in_err-first c =
    let text = c.in_ok-text.text.now in
    let utf8 : IsUtf8 text = search rules in
    let some : (length text == 0) ≡ false = search rules in
    place-from text _ (at c.args.starts.now c.args.name) (ap option_text (sym c.in_ok-text.was) ∙ c.get.ensures) utf8 some _
    (c.from_residual-in_err-first.ensures ∙ ap (λ (start : Option ℕ). span_from start (chars text)) (sym c.in_err-first.was ∙ c.get-2.ensures))

pub span_of-span-requires : goal.span_of-span-requires
span_of-span-requires c =
    let string = c.args.string.now in
    let text = c.in_ok-text.text.now in
    let utf8 : IsUtf8 text = search rules in
    let given = at (values_view c.args.init.now) c.args.name in
    let begins = subst (λ (start : Option ℕ). IfSome start (λ first. IsSomeAnd given (λ part. HasPartAt (chars string) part first))) (sym c.get-2.ensures ∙ c.in_ok-first.was) (c.requires c.args.name) in
    let there = subst (λ (value : Option (List ℕ)). IsSomeAnd value (λ part. HasPartAt (chars string) part c.in_ok-first.first)) (sym c.get.ensures ∙ ap option_text c.in_ok-text.was) begins in
    let ends = part_ends string (chars text) c.in_ok-first.first c.utf8.string there in
    let len = byte_len-chars text utf8 in
    omega (arith, ends, len)

pub returns : goal.returns
returns c =
    let text = c.in_ok-text.text.now in
    let utf8 : IsUtf8 text = search rules in
    let some : (length text == 0) ≡ false = search rules in
    let start = at c.args.starts.now c.args.name in
    place-from text _ start (ap option_text (sym c.in_ok-text.was) ∙ c.get.ensures) utf8 some (Some c.span_of-span.result)
    (ap Some c.span_of-span.ensures.span ∙ span_is start c.in_ok-first.first (length text) (chars text) (sym c.get-2.ensures ∙ c.in_ok-first.was) (sym (byte_len-chars text utf8)))
