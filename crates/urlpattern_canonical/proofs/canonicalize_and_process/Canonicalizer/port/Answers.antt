use Rattle.std.proofs.Common.{refl, ◌∙◌}
use Rattle.url.specs.declared.error.ParseError.TheVariants.{InvalidPort}
use Rattle.url.specs.declared.slicing.Position.TheVariants.{BeforePort, AfterPort}
use Rattle.url.specs.Parts.{text_between}
use Rattle.url.specs.Quirks as quirks
use Rattle.urlpattern_canonical.proofs.CanonicalLemmas.{after-refused}
use Rattle.urlpattern_canonical.proofs.SettingLemmas.{port-answer, port-scheme, refused, set_as-answered, set_as-refused}
use Rattle.urlpattern_canonical.specs.Canonical.{dummy_of_scheme, port_of, rejected_as}
use Rattle.urlpattern_canonical.proofs.canonicalize_and_process.Canonicalizer.port.Goals as goal

pub returns-in_err-url : goal.returns-in_err-url
returns-in_err-url c =
    let scheme = c.scheme_for_port.result.now in
    port-answer c.args.protocol c.unwrap_or-protocol.result _ scheme c.args.value.now c.max-bytes.result _ refl c.unwrap_or-protocol.ensures c.scheme_for_port.ensures c.scheme_for_port.utf8 c.max-bytes.ensures
    (refused (port_of scheme) (dummy_of_scheme scheme) c.args.value.now c.max-bytes.result _ _ c.utf8.value c.is_empty.ensures c.if-is_empty.false
    (after-refused (dummy_of_scheme scheme) (λ url. rejected_as InvalidPort (quirks.set_port url c.args.value.now)) (λ url. text_between url BeforePort AfterPort))
    c.in_err-url.ensures.err c.from_residual.ensures.1)

pub returns-in_err-rejected_as : goal.returns-in_err-rejected_as
returns-in_err-rejected_as c =
    let scheme = c.scheme_for_port.result.now in
    port-answer c.args.protocol c.unwrap_or-protocol.result _ scheme c.args.value.now c.max-bytes.result _ refl c.unwrap_or-protocol.ensures c.scheme_for_port.ensures c.scheme_for_port.utf8 c.max-bytes.ensures
    (set_as-refused InvalidPort (dummy_of_scheme scheme) (λ value url. quirks.set_port url value) (λ url. text_between url BeforePort AfterPort) c.args.value.now
    c.max-bytes.result c.set_port.new.url _ _ _ _ (λ same. absurd cc) c.utf8.value c.is_empty.ensures c.if-is_empty.false c.in_ok-url.ensures.ok
    c.set_port.ensures.0 c.rejected_as.ensures c.in_err-rejected_as.was c.from_residual-in_err-rejected_as.ensures.1)

pub returns : goal.returns
returns c =
    let scheme = c.scheme_for_port.result.now in
    rw (← port-scheme c.args.protocol c.unwrap_or-protocol.result _ scheme refl c.unwrap_or-protocol.ensures c.scheme_for_port.ensures c.scheme_for_port.utf8)
    (set_as-answered InvalidPort (dummy_of_scheme scheme) (λ value url. quirks.set_port url value) (λ url. text_between url BeforePort AfterPort)
    c.args.value.now c.max-bytes.result c.set_port.new.url _ _ c.in_ok-from_str.field-0 c.utf8.value c.is_empty.ensures c.if-is_empty.false
    c.in_ok-url.ensures.ok c.set_port.ensures.0 c.rejected_as.ensures c.in_ok-rejected_as.was (c.in_ok-from_str.ensures.ok ∙ c.port.ensures))
