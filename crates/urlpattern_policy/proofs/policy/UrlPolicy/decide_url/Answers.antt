use Rattle.std.proofs.Common.{subst}
use Rattle.urlpattern_components.specs.Eight.{Texts}
use Rattle.urlpattern_policy.specs.Decisions.{DecidesUrl}
use Rattle.urlpattern_policy.proofs.policy.UrlPolicy.decide_url.Goals as goal

pub returns : goal.returns
returns g c = subst (λ (texts : Texts). DecidesUrl g.R.RegExp.answer c.args.self.now texts c.decide_of_url.result) c.url_texts.ensures c.decide_of_url.ensures
