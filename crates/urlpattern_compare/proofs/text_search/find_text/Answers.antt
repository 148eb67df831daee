use Rattle.std.proofs.Common.{◌≡◌, ◌<◌, ◌≤◌, ◌∙◌, ◌+◌, ap, sym, subst, false, ℕ, List, length, length-append, get_or, take_all, arith, rules}
use Rattle.std.proofs.lemmas.List.Elements.{All-get_or}
use Rattle.std.specs.List.{All}
use Rattle.urlpattern_compare.specs.Conditions.{are_met, joint_starts}
use Rattle.urlpattern_compare.specs.Exits.{AreClasses, AreExits}
use Rattle.urlpattern_compare.specs.TextSearch.{ArePlaces, IsFollowedIn, IsPlaceOf, IsPlaced}
use Rattle.urlpattern_compare.specs.declared.condition.Condition.{Condition}
use Rattle.urlpattern_compare.specs.declared.text_search.Place.{Place}
use Rattle.urlpattern_compare.proofs.PlaceLemmas.{IsDoneIn, copy_placed, done_next, followed_all, many_sets, nothing_found, place_met, seen_longer}
use Rattle.urlpattern_compare.proofs.text_search.find_text.Goals as goal
use Rattle.urlpattern_compare.proofs.text_search.find_text.Goals.{then-loop-next-test+else-len-most, else-loop-next-test}

-- A copy of a place among others.
placed_copy : (conditions : List Condition) (places : List Place) (next : ℕ) (place copy : Place) → ArePlaces conditions places → next < length places → place ≡ get_or places next place
    → IsPlaceOf place.flags.items place.text.items copy → IsPlaced conditions copy
placed_copy conditions places next place copy are lt at same =
    copy_placed conditions place copy (subst (IsPlaced conditions) (sym at) (All-get_or (IsPlaced conditions) places next place lt are.placed)) same

pub returns-then-are_met : goal.returns-then-are_met
returns-then-are_met c =
    let conditions = c.args.conditions.now in
    let copy = c.in_ok-place.place in
    let placed = placed_copy conditions c.loop-next.places.items c.loop-next.next c.index.result.now copy c.loop-next.invariant.places (search rules) c.index.ensures c.in_ok-place.ensures in
    let met = ap (λ f. are_met conditions f) (sym c.deref.ensures.value) ∙ sym c.are_met.ensures ∙ c.if-are_met.true in
    (place_met conditions copy placed met, placed.line)

pub follow-requires-clause-place : goal.follow-requires-clause-place
follow-requires-clause-place c =
    placed_copy c.args.conditions.now c.loop-next.places.items c.loop-next.next c.index.result.now c.in_ok-place.place c.loop-next.invariant.places (search rules) c.index.ensures c.in_ok-place.ensures

pub follow-requires-clause-exits : goal.follow-requires-clause-exits
follow-requires-clause-exits c =
    let conditions = c.args.conditions.now in
    let flags = c.in_ok-place.place.flags.items in
    subst (AreExits conditions flags) (sym c.deref-in-loop-next-3.ensures.value) (subst (λ f. AreExits conditions f c.in_ok-exits.exits.items) c.deref-in-loop-next.ensures.value c.in_ok-exits.ensures)

pub loop-next-preserved : goal.loop-next-preserved
loop-next-preserved c =
    let conditions = c.args.conditions.now in
    let old = c.loop-next.places.items in
    let new = c.follow.new.places.items in
    let classes = c.in_ok-classes.classes.items in
    let copy = c.in_ok-place.place in
    let before = c.loop-next.invariant in
    let after = c.in_ok-follow.ensures in
    let lt : c.loop-next.next < length old = search rules in
    let len : length new ≡ length old + length after.kept.0 = ap length after.kept.1 ∙ length-append old after.kept.0 in
    let unmet : are_met conditions copy.flags.items ≡ false = ap (λ f. are_met conditions f) (sym c.deref.ensures.value) ∙ sym c.are_met.ensures ∙ c.if-are_met.false in
    let some : IsFollowedIn conditions classes new copy = subst (λ l. IsFollowedIn conditions l new copy) c.deref-in-loop-next-4.ensures.value after.followed in
    let followed = followed_all conditions c.in_ok-exits.exits.items classes new copy (subst (λ f. AreExits conditions f c.in_ok-exits.exits.items) c.deref-in-loop-next.ensures.value c.in_ok-exits.ensures) (subst (λ l. AreClasses l classes) c.deref-in-loop-next-2.ensures.value c.in_ok-classes.ensures) some in
    record {
      places = after.places;
      starts = λ opens. seen_longer old new (joint_starts conditions) after.kept (before.starts opens);
      done = done_next conditions old new c.loop-next.next c.index.result.now copy after.kept lt c.index.ensures c.in_ok-place.ensures unmet followed before.done;
      within = omega arith;
    }

pub returns-then-next-len : goal.returns-then-next-len
returns-then-next-len c =
    let places = c.loop-next.places.items in
    let many : c.args.most < length places = elim c.loop-next-test.branch [
      | then-loop-next-test+else-len-most w ↦ search rules
      | else-loop-next-test w ↦ search rules
    ] in
    many_sets c.args.conditions.now places c.args.most c.loop-next.invariant.places many

pub returns : goal.returns
returns c =
    let conditions = c.args.conditions.now in
    let places = c.loop-next.places.items in
    let le : length places ≤ c.loop-next.next = search rules in
    let done : All (IsDoneIn conditions places) places =
    subst (λ l. All (IsDoneIn conditions places) l) (take_all c.loop-next.next places le) c.loop-next.invariant.done in
    nothing_found conditions places c.loop-next.invariant.places.placed done c.loop-next.invariant.starts
