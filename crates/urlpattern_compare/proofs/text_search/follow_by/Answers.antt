use Rattle.std.proofs.Common.{◌≡◌, ◌∙◌, [], ◌∷◌, ◌++◌, ap, refl, rules, subst, sym}
use Rattle.std.proofs.lemmas.Bool.{false≢true}
use Rattle.std.proofs.lemmas.List.Elements.{Contains-push}
use Rattle.std.specs.List.{Contains}
use Rattle.urlpattern_compare.specs.Conditions.{joint_moved}
use Rattle.urlpattern_compare.specs.TextSearch.{ArePlaces, IsPlaceSeen}
use Rattle.urlpattern_compare.specs.declared.text_search.Place.{Place}
use Rattle.urlpattern_compare.proofs.PlaceLemmas.{places_more, step_placed}
use Rattle.urlpattern_compare.proofs.text_search.follow_by.Goals as goal

pub returns-then-is_seen-clause-followed : goal.returns-then-is_seen-clause-followed
returns-then-is_seen-clause-followed c = λ plain opens.
    let flags_are = c.in_ok-flags.ensures ∙ c.requires.exits c.args.c in
    subst (IsPlaceSeen c.args.places.now.items) (c.deref-3.ensures.value ∙ flags_are) (subst (λ l. IsPlaceSeen l c.deref-3.result.now) c.deref-2.ensures.value (c.if-is_seen.ensures.0 refl))

pub returns-clause-places : goal.returns-clause-places
returns-clause-places c =
    let conditions = c.args.conditions.now in
    let old = c.args.places.now.items in
    let place = c.args.place.now in
    let next : Place = record { flags = c.in_ok-flags.flags; text = c.push.new.self } in
    let pushed : c.push-2.new.self.items ≡ old ++ next ∷ [] = c.in_ok-push-2.ensures.items in
    let flags_are : next.flags.items ≡ joint_moved conditions place.flags.items c.args.c = c.in_ok-flags.ensures ∙ c.requires.exits c.args.c in
    let text_is : next.text.items ≡ place.text.items ++ c.args.c ∷ [] = c.in_ok-push.ensures.items ∙ ap (λ t. t ++ c.args.c ∷ []) (c.in_ok-text.ensures.items ∙ c.deref-4.ensures.value) in
    subst (ArePlaces conditions) (sym pushed)
    (places_more conditions old next c.requires.places (step_placed conditions place next c.args.c (search (rules, c.ranges.c)) c.if-c-eq10.false c.requires.place (flags_are, text_is))
    (λ seen. false≢true (sym c.if-is_seen.false ∙ c.is_seen.ensures.1
    (subst (λ l. IsPlaceSeen l c.deref-3.result.now) (sym c.deref-2.ensures.value) (subst (IsPlaceSeen old) (sym c.deref-3.ensures.value) seen)))))

pub returns-clause-followed : goal.returns-clause-followed
returns-clause-followed c = λ plain opens.
    let next : Place = record { flags = c.in_ok-flags.flags; text = c.push.new.self } in
    let pushed : c.push-2.new.self.items ≡ c.args.places.now.items ++ next ∷ [] = c.in_ok-push-2.ensures.items in
    (next, subst (λ l. Contains l next) (sym pushed) (Contains-push c.args.places.now.items next), c.in_ok-flags.ensures ∙ c.requires.exits c.args.c)
