use Rattle.std.proofs.Common.{Bool, false, refl, subst, sym, true, ◌∙◌, ◌≡◌}
use Rattle.std.proofs.lemmas.Option.{same_Some}
use Rattle.std.specs.Prelude.{IsTrue, None}
use Rattle.urlpattern.proofs.ListedParts.{has_parts, lacks_parts}
use Rattle.urlpattern.proofs.router.UrlPatternRouter.lacks_parts_at.Goals as goal

not_false : (is : Bool) → ¬ (is ≡ false) → IsTrue is
not_false true never = refl
not_false false never = absurd (never refl)

pub returns : goal.returns
returns g c = (
  λ is. (
    (c.in-Some.pattern.now, c.in-Some.route.now),
    sym c.in-Some.ensures,
    c.takes.ensures.0 c.if-not-takes.false,
    lacks_parts c.parts.result c.is_none.result _ c.parts.ensures.parts c.is_none.ensures is,
  ),
  λ lacks.
      let (entry, there, takes, none) = lacks in
      let same = same_Some (c.in-Some.pattern.now, c.in-Some.route.now) entry (c.in-Some.ensures ∙ there) in
      not_false c.is_none.result
      (λ is. has_parts c.parts.result c.is_none.result _ c.parts.ensures.parts c.is_none.ensures is (subst (λ one. one.0.parts ≡ None) (sym same) none)),
)
