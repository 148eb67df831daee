use Rattle.std.proofs.Common.{subst, sym, ◌∙◌}
use Rattle.std.proofs.lemmas.Bool.{false≢true}
use Rattle.std.proofs.lemmas.Option.{same_Some}
use Rattle.std.specs.Str.{chars}
use Rattle.urlpattern.specs.Routes.{HasMethod}
use Rattle.urlpattern.proofs.router.UrlPatternRouter.has_method_at.Goals as goal

pub returns-in-Some : goal.returns-in-Some
returns-in-Some g c = (
  λ is. ((c.in-Some.field-0-0.now, c.in-Some.route.now), sym c.in-Some.ensures, c.has_method.ensures.0 is),
  λ (entry, there, has).
      c.has_method.ensures.1 (subst (λ one. HasMethod (chars c.args.method.now) one.1) (sym (same_Some (c.in-Some.field-0-0.now, c.in-Some.route.now) entry (c.in-Some.ensures ∙ there))) has),
)

pub returns-in-None : goal.returns-in-None
returns-in-None g c = (λ is. absurd (false≢true is), λ (entry, there, has). let none = c.in-None.ensures ∙ there in absurd (cc))
