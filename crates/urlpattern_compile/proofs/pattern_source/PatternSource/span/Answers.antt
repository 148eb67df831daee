use Rattle.std.proofs.Common.{ℕ, List, [], Bor, Option, Some, ◌+◌, ◌≡◌, ◌≤◌, arith, ap, length, refl, sym, ◌∙◌, subst}
use Rattle.std.specs.Prelude.{IfSome, IsSomeAnd, unwrap_or}
use Rattle.std.specs.Str.{chars}
use Rattle.urlpattern_components.specs.Eight.{at}
use Rattle.urlpattern_constructor.specs.Splitting.{HasComponentsAt, HasPartAt}
use Rattle.urlpattern_init.specs.Inheritance.{values_view}
use Rattle.urlpattern_compile.specs.Diagnoses.{IsTextFor, span_in}
use Rattle.urlpattern_compile.specs.Sources.{IsSplitFrom, string_written}
use Rattle.urlpattern_compile.specs.declared.pattern_source.SplitString.{SplitString}
use Rattle.urlpattern_compile.proofs.DiagnosisLemmas.{span_is, value_ends, value_len}
use Rattle.urlpattern_syntax.specs.Text.{byte_len}
use Rattle.urlpattern_compile.proofs.pattern_source.PatternSource.span.Goals as goal

pub span_of-span-requires : goal.span_of-span-requires
span_of-span-requires c =
    let values = values_view c.args.self.now.init.now in
    let split = c.in-Some.split in
    let has : HasComponentsAt (chars split.text.now) values split.starts.now =
    subst (λ (string : Option SplitString). IsSplitFrom (string_written string) values) c.in-Some.is c.requires.source in
    let begins = sym c.get.ensures ∙ c.in-Some-get.is in
    let there = subst (λ (start : Option ℕ). IfSome start (λ first. IsSomeAnd (at values c.args.component) (λ part. HasPartAt (chars split.text.now) part first))) begins (has c.args.component) in
    let text : c.args.text.now ≡ split.text.now =
    subst (λ (string : Option SplitString). IsTextFor (string_written string) (at values c.args.component) c.requires.text.0 c.args.text.now) c.in-Some.is c.requires.text.1 in
    let here = subst (λ (bytes : List ℕ). IsSomeAnd (at values c.args.component) (λ part. HasPartAt (chars bytes) part c.in-Some-get.start)) (sym text) there in
    let ends = value_ends c.args.text.now (at values c.args.component) c.in-Some-get.start c.utf8.text here in
    let len = value_len c.get-in-Some-get.result c.unwrap_or-len.result _ (at values c.args.component) c.unwrap_or-len.ensures refl c.get-in-Some-get.ensures c.unwrap_or-len.utf8 in
    omega (arith, ends, len)

pub returns-in-Some-get-clause-span : goal.returns-in-Some-get-clause-span
returns-in-Some-get-clause-span c =
    let values = values_view c.args.self.now.init.now in
    let begins = sym c.get.ensures ∙ c.in-Some-get.is in
    let len = value_len c.get-in-Some-get.result c.unwrap_or-len.result _ (at values c.args.component) c.unwrap_or-len.ensures refl c.get-in-Some-get.ensures c.unwrap_or-len.utf8 in
    subst (λ (string : Option SplitString). Some c.span_of-span.result ≡ span_in (string_written string) values c.args.text.now c.args.component) (sym c.in-Some.is)
    (ap Some c.span_of-span.ensures.span ∙ span_is (at c.in-Some.split.starts.now c.args.component) c.in-Some-get.start (length c.unwrap_or-len.result.now) (unwrap_or (at values c.args.component) []) begins len)
