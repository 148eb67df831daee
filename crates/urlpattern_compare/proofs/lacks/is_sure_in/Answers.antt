use Rattle.std.proofs.Common.{◌≡◌, ◌∙◌, None, inl, inr, subst, sym}
use Rattle.std.proofs.lemmas.Bool.{false≢true}
use Rattle.std.specs.Option.{IsSome}
use Rattle.urlpattern_components.specs.Eight.{at}
use Rattle.urlpattern_compare.proofs.lacks.is_sure_in.Goals as goal

pub returns-in-None : goal.returns-in-None
returns-in-None c =
    let none : at c.args.pattern.now.automata c.args.component ≡ None = sym c.get.ensures ∙ c.in-None.is in (
      λ h. inl (c.is_same_in.ensures.0 h),
      λ sure. elim sure [
        | inl same ↦ c.is_same_in.ensures.1 same
        | inr some ↦ absurd (false≢true (subst IsSome none some))
      ],
    )
