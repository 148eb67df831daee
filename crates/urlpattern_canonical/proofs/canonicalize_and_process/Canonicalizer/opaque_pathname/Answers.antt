use Rattle.std.proofs.Common.{Ok, ◌∙◌}
use Rattle.url.specs.Setters.{set_path}
use Rattle.urlpattern_canonical.proofs.SettingLemmas.{set-answered, set-refused}
use Rattle.urlpattern_canonical.specs.Canonical.{opaque_url}
use Rattle.urlpattern_canonical.proofs.canonicalize_and_process.Canonicalizer.opaque_pathname.Goals as goal

pub returns-in_err-reported : goal.returns-in_err-reported
returns-in_err-reported c =
    set-refused opaque_url (λ value url. Ok (set_path url value)) (λ url. url.path) c.args.value.now _ _ _ _ _ c.utf8.value c.is_empty.ensures c.if-is_empty.false
    c.in_ok-url.ensures.ok c.set_path.ensures.0 c.reported.ensures c.in_err-reported.was c.from_residual-in_err-reported.ensures.1

pub returns : goal.returns
returns c =
    set-answered opaque_url (λ value url. Ok (set_path url value)) (λ url. url.path) c.args.value.now _ _ _ c.in_ok-from_str.field-0 c.utf8.value c.is_empty.ensures c.if-is_empty.false
    c.in_ok-url.ensures.ok c.set_path.ensures.0 c.reported.ensures c.in_ok-reported.was (c.in_ok-from_str.ensures.ok ∙ c.path.ensures.value)
