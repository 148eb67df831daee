use Rattle.std.proofs.Common.{◌≡◌, ◌∙◌, ap, inl, inr, sym, subst, refl, take_all}
use Rattle.std.proofs.lemmas.Bool.{false≢true}
use Rattle.urlpattern_compare.proofs.StateSets.{contains_more}
use Rattle.urlpattern_compare.specs.TextSearch.{IsPlaceSeen}
use Rattle.urlpattern_compare.specs.declared.text_search.Place.{Place}
use Rattle.urlpattern_compare.proofs.text_search.is_seen.Goals as goal

pub returns-then-are_same : goal.returns-then-are_same
returns-then-are_same c =
    let place = c.place-item.result in (
      λ h. (place, (c.loop-place.place-index, c.loop-place-test.true, sym c.place-item.is), sym c.deref.ensures.value ∙ c.if-are_same.ensures.0 refl),
      λ seen. refl,
    )

pub returns : goal.returns
returns c = (
  λ h. absurd (false≢true h),
  λ seen. absurd (c.loop-place.invariant (subst (λ l. IsPlaceSeen l c.args.flags.now) (sym (take_all c.loop-place.place-index c.args.places.now c.loop-place-test.false)) seen)),
)

pub loop-place-preserved : goal.loop-place-preserved
loop-place-preserved c = λ (it, has, flags_are).
    let place = c.place-item.result in
    elim (contains_more c.args.places.now c.loop-place.place-index place it c.loop-place-test.true has) [
      | inl earlier ↦ c.loop-place.invariant (it, earlier, flags_are)
      | inr e ↦
          let same : place ≡ it = c.place-item.is ∙ e in
          false≢true (sym c.if-are_same.false ∙ c.are_same.ensures.1 (c.deref.ensures.value ∙ ap (λ (p : Place). p.flags.items) same ∙ flags_are))
    ]
