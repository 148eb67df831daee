use Rattle.std.proofs.Common.{sym, ap, ◌∙◌}
use Rattle.urlpattern_canonical.proofs.SchemeLemmas.{special-chars, special-none}
use Rattle.urlpattern_canonical.specs.Canonical.{is_special}
use Rattle.urlpattern_canonical.proofs.canonicalize_and_process.schemes.is_special_scheme.Goals as goal

pub returns-in_default : goal.returns-in_default
returns-in_default c =
    sym
    (special-chars c.args.scheme.now c.utf8.scheme
    ∙ special-none c.args.scheme.now c.in_default.not-http c.in_default.not-https c.in_default.not-ws c.in_default.not-wss c.in_default.not-ftp
    c.in_default.not-file)

pub returns-in-http : goal.returns-in-http
returns-in-http c = sym (special-chars c.args.scheme.now c.utf8.scheme ∙ ap is_special c.in-http.is-http)

pub returns-in-http-2 : goal.returns-in-http-2
returns-in-http-2 c = sym (special-chars c.args.scheme.now c.utf8.scheme ∙ ap is_special c.in-http.is-https)

pub returns-in-http-3 : goal.returns-in-http-3
returns-in-http-3 c = sym (special-chars c.args.scheme.now c.utf8.scheme ∙ ap is_special c.in-http.is-ws)

pub returns-in-http-4 : goal.returns-in-http-4
returns-in-http-4 c = sym (special-chars c.args.scheme.now c.utf8.scheme ∙ ap is_special c.in-http.is-wss)

pub returns-in-http-5 : goal.returns-in-http-5
returns-in-http-5 c = sym (special-chars c.args.scheme.now c.utf8.scheme ∙ ap is_special c.in-http.is-ftp)

pub returns-in-http-6 : goal.returns-in-http-6
returns-in-http-6 c = sym (special-chars c.args.scheme.now c.utf8.scheme ∙ ap is_special c.in-http.is-file)
