use Rattle.std.proofs.Common.{subst}
use Rattle.std.specs.Str.{chars}
use Rattle.urlpattern.specs.Routes.{CallsEngineOfRequest}
use Rattle.urlpattern_components.specs.Eight.{Texts}
use Rattle.urlpattern_pattern.proofs.Results.{if_err}
use Rattle.urlpattern.proofs.router.UrlPatternRouter.at_url.Goals as goal

pub returns-in_err-at_texts-clause-asked : goal.returns-in_err-at_texts-clause-asked
returns-in_err-at_texts-clause-asked g c =
    if_err _ c.from_residual.result
    (subst (λ (texts : Texts). CallsEngineOfRequest g.R.RegExp.answer c.args.self.now (chars c.args.method.now) texts) c.url_texts.ensures c.in_err-at_texts.ensures.asked)
