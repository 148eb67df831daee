use Rattle.std.proofs.Common.{◌∙◌, None, subst}
use Rattle.std.specs.Prelude.{IfErr}
use Rattle.url.specs.Parser.{parse_url}
use Rattle.urlpattern_canonical.specs.Canonical.{Reports}
use Rattle.urlpattern_syntax.specs.Errors.{MemoryOr}
use Rattle.urlpattern_canonical.proofs.canonicalize_and_process.urls.parse_under.Goals as goal

pub returns-clause-err : goal.returns-clause-err
returns-clause-err c =
    subst (λ text. IfErr c.parse.result (MemoryOr (Reports (parse_url None text) c.args.bytes))) (c.deref.ensures ∙ c.in_ok-text.ensures.ok) c.parse.ensures.err
