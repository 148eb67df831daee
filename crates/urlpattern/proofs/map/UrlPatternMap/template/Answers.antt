use Rattle.std.proofs.Common.{List, subst}
use Rattle.std.specs.Prelude.{IfSome}
use Rattle.urlpattern.proofs.MapFinding.{are_keys}
use Rattle.urlpattern.specs.PatternKeys.{IsTemplateAt}
use Rattle.urlpattern_pattern.specs.UrlPatterns.{UrlPattern}
use Rattle.urlpattern.proofs.map.UrlPatternMap.template.Goals as goal

pub returns : goal.returns
returns g c =
    subst (λ (patterns : List (UrlPattern g.row.R.Denot)). IfSome c.template.result (λ template. IsTemplateAt g.R.RegExp.answer patterns c.args.index template.now))
    (are_keys c.self.inside.patterns c.self.inside.values.items c.args.self.now c.self.invariant c.self.view_is) c.template.ensures
