use Rattle.std.proofs.Common.{rules, subst, sym}
use Rattle.urlpattern_components.specs.Eight.{at}
use Rattle.urlpattern_components.specs.declared.eight.Eight.{Eight}
use Rattle.urlpattern_matches.specs.ResultViews.{IsCopy, results_of}
use Rattle.urlpattern_matches.specs.declared.result.UrlPatternComponentResult.{UrlPatternComponentResult}
use Rattle.urlpattern_matches.proofs.result.UrlPatternResultClone.clone.Goals as goal

pub returns : goal.returns
returns c = record {
  cases = λ name. subst (λ (results : Eight UrlPatternComponentResult). IsCopy (at (results_of c.args.self.now) name) (at results name)) (sym c.from_eight.ensures)
      (let copied = c.in_ok-components.ensures.ok name in search rules);
}
