use Rattle.std.proofs.Common.{false, length, ◌∙◌}
use Rattle.url.specs.Host.{host_text}
use Rattle.url.specs.Parts.{host_or_empty}
use Rattle.url.specs.Quirks as quirks
use Rattle.url.specs.declared.error.ParseError.TheVariants.{InvalidDomainCharacter}
use Rattle.urlpattern_canonical.proofs.SettingLemmas.{set_as-answered, set_as-refused}
use Rattle.urlpattern_canonical.specs.Canonical.{dummy_url}
use Rattle.urlpattern_canonical.proofs.canonicalize_and_process.Canonicalizer.hostname.Goals as goal

pub returns-in_err-rejected_as : goal.returns-in_err-rejected_as
returns-in_err-rejected_as c =
    set_as-refused InvalidDomainCharacter dummy_url (λ value url. quirks.set_host url value false) (λ url. host_text (host_or_empty url))
    c.args.value.now (length c.args.value.now) c.set_hostname-answer.new.url c.set_hostname-answer.result c.rejected_as.result
    c.from_residual-in_err-rejected_as.result c.in_err-rejected_as.field-0.0 (λ same. absurd cc) c.utf8.value c.is_empty.ensures c.if-is_empty.false
    c.in_ok-url.ensures.ok c.set_hostname-answer.ensures.0 c.rejected_as.ensures c.in_err-rejected_as.was c.from_residual-in_err-rejected_as.ensures.1

pub returns : goal.returns
returns c =
    set_as-answered InvalidDomainCharacter dummy_url (λ value url. quirks.set_host url value false) (λ url. host_text (host_or_empty url))
    c.args.value.now (length c.args.value.now) c.set_hostname-answer.new.url c.set_hostname-answer.result c.rejected_as.result
    c.in_ok-from_str.field-0 c.utf8.value c.is_empty.ensures c.if-is_empty.false c.in_ok-url.ensures.ok c.set_hostname-answer.ensures.0
    c.rejected_as.ensures c.in_ok-rejected_as.was (c.in_ok-from_str.ensures.ok ∙ c.hostname.ensures)
