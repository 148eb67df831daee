use Rattle.std.proofs.Common.{ap, subst, sym, ◌∙◌}
use Rattle.std.proofs.lemmas.Bool.{false≢true}
use Rattle.std.specs.Str.{chars}
use Rattle.urlpattern.specs.Routes.{HasMethodBefore, allowed_left}
use Rattle.urlpattern.proofs.router.allowed_methods.AllowedMethods.new_method.Goals as goal

pub returns-clause-new : goal.returns-clause-new
returns-clause-new g c = (
  rw c.in-Some.is (sym (ap chars c.deref-2.ensures)),
  λ before. false≢true (sym c.if-branch.false ∙ c.in_ok-is_listed.ensures.listed.1
      (subst (λ method. HasMethodBefore g.R.RegExp.answer (allowed_left c.args.self.now) method c.args.end) (ap chars (c.deref-2.ensures ∙ sym c.deref.ensures)) before)),
)
