use Rattle.std.proofs.Common.{◌≡◌, ◌∙◌, [], ◌∷◌, ◌++◌, rules, sym, subst, refl}
use Rattle.std.specs.List.{Contains}
use Rattle.urlpattern_compare.specs.TextSearch.{ArePlaces}
use Rattle.urlpattern_compare.specs.declared.text_search.Place.{Place}
use Rattle.urlpattern_compare.proofs.PlaceLemmas.{no_places, places_more, start_placed}
use Rattle.urlpattern_compare.proofs.StateSets.{contains_head}
use Rattle.urlpattern_compare.proofs.text_search.first_places.Goals as goal

pub returns-clause-places : goal.returns-clause-places
returns-clause-places c =
    let conditions = c.args.conditions.now in
    let place : Place = record { flags = c.in_ok-flags.flags; text = c.new.result } in
    let pushed : c.push.new.self.items ≡ place ∷ [] = c.in_ok-push.ensures.items ∙ subst (λ l. l ++ place ∷ [] ≡ place ∷ []) (sym c.new-places.ensures.items) refl in
    subst (ArePlaces conditions) (sym pushed)
    (places_more conditions [] place (no_places conditions) (start_placed conditions place (c.in_ok-flags.ensures, c.new.ensures.items)) (λ (it, (k, lt, e), same). absurd (search rules)))

pub returns-clause-starts : goal.returns-clause-starts
returns-clause-starts c = λ opens.
    let place : Place = record { flags = c.in_ok-flags.flags; text = c.new.result } in
    let pushed : c.push.new.self.items ≡ place ∷ [] = c.in_ok-push.ensures.items ∙ subst (λ l. l ++ place ∷ [] ≡ place ∷ []) (sym c.new-places.ensures.items) refl in
    (place, subst (λ l. Contains l place) (sym pushed) (contains_head place []), c.in_ok-flags.ensures)
