use Rattle.std.proofs.Common.{ap, [], ◌∙◌, ◌++◌, ◌∷◌}
use Rattle.urlpattern.proofs.PatternMapLemmas.{pairs-append}
use Rattle.urlpattern.proofs.map.UrlPatternMap.insert.Goals as goal

pub returns-clause-appended : goal.returns-clause-appended
returns-clause-appended g c =
    rw (c.in-Ok-push-2.ensures.items, c.reserve.ensures.items, c.in-Ok-push.ensures.appended)
    (pairs-append c.self.inside.patterns c.self.inside.values.items c.args.pattern c.args.value c.self.invariant
    ∙ ap (λ entries. entries ++ (c.args.pattern, c.args.value) ∷ []) c.self.view_is)
