use Rattle.std.proofs.Common.{[], refl, unwrap_or, Some, Ok, ◌∙◌}
use Rattle.url.specs.Setters.{set_fragment}
use Rattle.urlpattern_canonical.proofs.CanonicalLemmas.{unwrapped-copied}
use Rattle.urlpattern_canonical.proofs.SettingLemmas.{set-answered, set-refused}
use Rattle.urlpattern_canonical.specs.Canonical.{dummy_url}
use Rattle.urlpattern_canonical.proofs.canonicalize_and_process.Canonicalizer.hash.Goals as goal

pub returns-in_err-reported : goal.returns-in_err-reported
returns-in_err-reported c =
    set-refused dummy_url (λ value url. Ok (set_fragment url (Some value))) (λ url. unwrap_or url.fragment []) c.args.value.now _ _ _ _ _ c.utf8.value c.is_empty.ensures c.if-is_empty.false
    c.in_ok-url.ensures.ok c.set_fragment.ensures.0 c.reported.ensures c.in_err-reported.was c.from_residual-in_err-reported.ensures.1

pub returns : goal.returns
returns c =
    set-answered dummy_url (λ value url. Ok (set_fragment url (Some value))) (λ url. unwrap_or url.fragment []) c.args.value.now _ _ _ c.in_ok-from_str.field-0 c.utf8.value c.is_empty.ensures c.if-is_empty.false
    c.in_ok-url.ensures.ok c.set_fragment.ensures.0 c.reported.ensures c.in_ok-reported.was
    (c.in_ok-from_str.ensures.ok ∙ unwrapped-copied c.fragment.result c.unwrap_or.result _ _ c.fragment.ensures.value refl c.unwrap_or.ensures)
