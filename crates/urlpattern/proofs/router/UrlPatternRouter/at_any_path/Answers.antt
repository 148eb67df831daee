use Rattle.std.proofs.Common.{subst}
use Rattle.std.proofs.lemmas.Result.{err_from_is_err_and}
use Rattle.std.specs.Str.{chars}
use Rattle.urlpattern.specs.Routes.{CallsEngineOfRequest}
use Rattle.urlpattern_components.specs.Eight.{Texts}
use Rattle.urlpattern.proofs.router.UrlPatternRouter.at_any_path.Goals as goal

pub returns-in_err-at_texts-clause-refused : goal.returns-in_err-at_texts-clause-refused
returns-in_err-at_texts-clause-refused g c =
    let p = err_from_is_err_and c.from_residual.result c.from_residual.ensures.1 in
    rw (p.1, p.2) (
      c.is_path.ensures.0 c.if-not-is_path.false,
      subst (λ (texts : Texts). CallsEngineOfRequest g.R.RegExp.answer c.args.self.now (chars c.args.method.now) texts) c.pathname_texts.ensures c.in_err-at_texts.ensures.asked,
    )
