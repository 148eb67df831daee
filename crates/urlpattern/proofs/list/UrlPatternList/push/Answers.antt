use Rattle.std.proofs.Common.{◌∙◌, ◌++◌, ◌∷◌, [], List, ap}
use Rattle.urlpattern.proofs.FixedLemmas.{indexed-push, templates-push}
use Rattle.urlpattern_pattern.specs.UrlPatterns.{UrlPattern}
use Rattle.urlpattern.proofs.list.UrlPatternList.push.Goals as goal

pub invariant_of-self-2 : goal.invariant_of-self-2
invariant_of-self-2 g c =
    let patterns = c.self.inside.patterns.items in
    rw (c.in-Ok-push-3.ensures.items, c.reserve.ensures.items, c.in-Ok-push-2.ensures.items, c.reserve-2.ensures.items) (
      indexed-push g.R.RegExp.answer patterns c.self.inside.index c.self.invariant.0 c.args.pattern _ _ c.in-Ok-push.ensures.appended c.fixed_of.ensures,
      templates-push g.R.RegExp.answer patterns c.self.inside.templates.items c.self.invariant.1 c.args.pattern c.path_template-template.result c.path_template-template.ensures,
    )

pub returns-clause-appended : goal.returns-clause-appended
returns-clause-appended g c =
    c.in-Ok-push-3.ensures.items ∙ ap (λ (patterns : List (UrlPattern g.row.R.Denot)). patterns ++ c.args.pattern ∷ []) (c.reserve.ensures.items ∙ c.self.view_is)
