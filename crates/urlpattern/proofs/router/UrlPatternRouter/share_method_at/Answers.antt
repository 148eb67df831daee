use Rattle.std.proofs.Common.{sym, ◌∙◌}
use Rattle.std.proofs.lemmas.Bool.{false≢true}
use Rattle.urlpattern.proofs.ConflictLemmas.{both-at}
use Rattle.urlpattern.specs.Conflicts.{ShareMethod}
use Rattle.urlpattern.proofs.router.UrlPatternRouter.share_method_at.Goals as goal

pub returns-in_default : goal.returns-in_default
returns-in_default g c = (λ is. absurd (false≢true is), λ (one, another, here, there, are). let none = c.in_default.ensures ∙ here in absurd (cc))

pub returns-in_default-get : goal.returns-in_default-get
returns-in_default-get g c = (λ is. absurd (false≢true is), λ (one, another, here, there, are). let none = c.in_default-get.ensures ∙ there in absurd (cc))

pub returns : goal.returns
returns g c =
    both-at c.args.self.now.routes ShareMethod c.args.index c.args.other (c.in-Some.field-0-0.now, c.in-Some.route.now) (c.in-Some-get.field-0-0.now, c.in-Some-get.another.now)
    c.shares_method.result (sym c.in-Some.ensures) (sym c.in-Some-get.ensures) c.shares_method.ensures
