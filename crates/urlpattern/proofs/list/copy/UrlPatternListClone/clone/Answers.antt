use Rattle.std.proofs.Common.{List, subst, ◌∙◌}
use Rattle.std.specs.List.{AllZip}
use Rattle.urlpattern_pattern.specs.PatternCopies.{IsPatternCopy}
use Rattle.urlpattern_pattern.specs.UrlPatterns.{UrlPattern}
use Rattle.urlpattern.proofs.list.copy.UrlPatternListClone.clone.Goals as goal

pub returns : goal.returns
returns g c = record {
  cases = subst (λ (patterns : List (UrlPattern g.row.R.Denot)). AllZip IsPatternCopy patterns c.in_ok-copy.copy) (c.deref.ensures.value ∙ c.self.view_is) c.in_ok-copy.ensures;
}
