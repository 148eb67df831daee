use Rattle.std.proofs.Common.{sym, ap, ◌∙◌, inl, inr}
use Rattle.urlpattern_canonical.proofs.SchemeLemmas.{port-chars, port-none}
use Rattle.urlpattern_canonical.specs.Canonical.{default_port}
use Rattle.urlpattern_canonical.proofs.canonicalize_and_process.schemes.special_scheme_default_port.Goals as goal

pub returns-in-ftp : goal.returns-in-ftp
returns-in-ftp c = sym (port-chars c.args.scheme.now c.utf8.scheme ∙ ap default_port c.in-ftp.is)

pub returns-in_default : goal.returns-in_default
returns-in_default c =
    sym
    (port-chars c.args.scheme.now c.utf8.scheme
    ∙ port-none c.args.scheme.now c.in_default.not-http c.in_default.not-https c.in_default.not-ws c.in_default.not-wss c.in_default.not-ftp)

pub returns-in-https : goal.returns-in-https
returns-in-https c =
    sym
    (port-chars c.args.scheme.now c.utf8.scheme
    ∙ elim c.in-https.is [ inl https ↦ ap default_port https | inr wss ↦ ap default_port wss ])

pub returns-in-http : goal.returns-in-http
returns-in-http c =
    sym
    (port-chars c.args.scheme.now c.utf8.scheme ∙ elim c.in-http.is [ inl http ↦ ap default_port http | inr ws ↦ ap default_port ws ])
