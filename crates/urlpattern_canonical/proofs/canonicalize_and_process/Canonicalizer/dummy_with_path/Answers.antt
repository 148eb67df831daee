use Rattle.std.proofs.Common.{Ok}
use Rattle.std.proofs.lemmas.Result.{err_from_is_err_and}
use Rattle.url.specs.Setters.{set_path}
use Rattle.urlpattern_canonical.proofs.CanonicalLemmas.{after-err, reported-err}
use Rattle.urlpattern_canonical.specs.Canonical.{dummy_url, path_of}
use Rattle.urlpattern_canonical.proofs.canonicalize_and_process.Canonicalizer.dummy_with_path.Goals as goal

pub returns-in_err-reported : goal.returns-in_err-reported
returns-in_err-reported c =
    let p = err_from_is_err_and c.from_residual-in_err-reported.result c.from_residual-in_err-reported.ensures.1 in
    let path = c.args.path.now in
    rw (p.1, p.2)
    (reported-err (λ _. c.set_path.new.self) c.set_path.result (Ok (set_path c.in_ok-url.url path)) (path_of dummy_url path) c.args.bytes
    c.reported.result c.in_err-reported.field-0.0 c.set_path.ensures.0 c.reported.ensures c.in_err-reported.was
    (λ reason refused. after-err dummy_url (λ url. Ok (set_path url path)) (λ url. url.path) c.in_ok-url.url reason c.in_ok-url.ensures.ok refused))
