use Rattle.std.proofs.Common.{sym, ◌∙◌}
use Rattle.std.proofs.lemmas.Bool.{false≢true}
use Rattle.urlpattern.proofs.RouteLemmas.{is_head}
use Rattle.urlpattern.proofs.router.UrlPatternRouter.is_head.Goals as goal

pub returns-then-not-self : goal.returns-then-not-self
returns-then-not-self g c = (λ is. absurd (false≢true is), λ (on, head). absurd (false≢true (sym c.if-not-self.true ∙ on)))

pub returns : goal.returns
returns g c =
    let same = is_head c.args.method.now c.utf8.method c.eq.result c.eq.ensures in
    (λ is. (c.if-not-self.false, same.0 is), λ (on, head). same.1 head)
