use Rattle.std.proofs.Common.{◌∙◌, Ok, Option, String, ap, option_map, rules, sym}
use Rattle.std.proofs.lemmas.List.Elements.{All-weaker}
use Rattle.std.proofs.lemmas.Result.{err_from_is_err_and}
use Rattle.urlpattern_canonical.proofs.CanonicalLemmas.{reports-more, reports-through}
use Rattle.urlpattern_components.proofs.EightLemmas.{at-each}
use Rattle.urlpattern_components.specs.Eight.{at}
use Rattle.urlpattern_syntax.specs.Text.{text_of}
use Rattle.urlpattern_init.proofs.InheritanceLemmas.{asked-le, has_value, is_value, kept, processed, refused-after}
use Rattle.urlpattern_init.specs.Inheritance.{bytes_of, values_of}
use Rattle.std.specs.declared.alloc.Global.{Global}
use Rattle.urlpattern_components.specs.declared.eight.ComponentName.{ComponentName}
use Rattle.urlpattern_init.specs.Processing.{IsValueUnlessProtocol, bytes_in, component_bytes, given_values, value_in, values_in}
use Rattle.urlpattern_init.proofs.init.processing.Processing.values.Goals as goal

pub returns-in_err-values-clause-err : goal.returns-in_err-values-clause-err
returns-in_err-values-clause-err c =
    let p = err_from_is_err_and c.from_residual.result c.from_residual.ensures.1 in
    let this = c.args.self.now in
    let protocol = option_map text_of c.args.protocol in
    let error = c.in_err-values.field-0.0 in
    let first = c.in_err-values.ensures.err in
    let name = first.2 in
    let bytes = component_bytes this (bytes_of protocol) name in
    rw (p.1, p.2)
    (reports-through (value_in this protocol name) (values_in this) (bytes_in this) error
    (λ reason refused. refused-after this.kind.now (given_values this) this.init.now.base_url protocol reason name first.0 first.1 first.3 c.requires (All-weaker (λ other. (value : Option (String Global)) × (ComponentName × IsValueUnlessProtocol this protocol other (Ok value))) _ (λ other had. has_value this.kind.now (given_values this) this.init.now.base_url protocol c.requires other (option_map text_of had.0) had.1.1.ok) first.0 first.4) refused)
    (reports-more (value_in this protocol name) bytes (bytes_in this) error
    (asked-le this.kind.now (given_values this) this.init.now.base_url name protocol c.requires) first.5.1.err))

pub returns-clause-ok : goal.returns-clause-ok
returns-clause-ok c =
    let this = c.args.self.now in
    let protocol = option_map text_of c.args.protocol in
    let others = record c.in_ok-values.values { protocol = c.args.protocol } in
    let found = values_of others in
    processed this.kind.now (given_values this) this.init.now.base_url protocol found c.requires
    (is_value this.kind.now (given_values this) this.init.now.base_url protocol c.requires found (search rules) (λ name not_first.
    (c.in_ok-values.ensures.ok name).1.ok not_first
    ∙ ap Ok (sym (at-each (λ n. option_map text_of (at others n)) name
    ∙ ap (option_map text_of) (kept c.args.protocol c.in_ok-values.values name not_first)))))
