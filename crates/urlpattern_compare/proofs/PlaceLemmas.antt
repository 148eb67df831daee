-- The places that a search for a text visits.
use Rattle.std.proofs.Common.{◌≡◌, ◌≢◌, ℕ, ◌+◌, ◌<◌, Bool, true, false, List, [], ◌∷◌, ◌++◌, length, refl, sym, subst, ap, ◌∙◌, arith, append_assoc, eq-eqb, get_or, length-append, map, take}
use Rattle.std.proofs.lemmas.Bool.{and_from, and_parts, false≢true, ne_eqb}
use Rattle.std.proofs.lemmas.List.{get_or_append_left, length-map, take-append-le}
use Rattle.std.proofs.lemmas.List.Elements.{All-contains, All-head, All-map, All-more, All-nil, All-push, All-tail, All-weaker, Contains-append_left, Contains-get_or}
use Rattle.std.proofs.lemmas.List.Folds.{list_all-append}
use Rattle.std.specs.List.{All, Contains}
use Rattle.std.specs.{Char.IsScalar, Str.all_scalars}
use Rattle.std.specs.Prelude.{◌&&◌, ◌==◌, IsTrue, not}
use Rattle.urlpattern_compare.specs.Conditions.{Meets, are_met, are_open, joint_after, joint_moved, joint_starts}
use Rattle.urlpattern_compare.specs.Exits.{AreClasses, AreExits}
use Rattle.urlpattern_compare.specs.declared.exits.Exits.{Exits}
use Rattle.urlpattern_compare.specs.TextSearch.{AreUnlike, ArePlaces, HasManySets, IsExtendedBy, IsFollowedIn, IsLine, IsPassedBy, IsPlaced, IsPlaceOf, IsPlaceSeen, LeadAlike}
use Rattle.urlpattern_compare.specs.declared.condition.Condition.{Condition}
use Rattle.urlpattern_compare.specs.declared.text_search.Place.{Place}
use Rattle.urlpattern_syntax.specs.Text.{lacks, line_feed}
use Rattle.urlpattern_compare.proofs.ConditionLemmas.{after_by, alike_after, joint_by, length_joint, length_joint_moved, met_after, moved_after, never_met, starts_after, width}

-- ---- values that are apart

pub apart_more : {X : Type 0} (R : X → X → Type 0) (xs : List X) (y : X) → AreUnlike R xs → All (λ x. ¬ R x y) xs → AreUnlike R (xs ++ y ∷ [])
apart_more R [] y apart none = (All-nil (λ other. ¬ R y other), tt)
apart_more R (x ∷ xs) y (first, apart) none = (
  All-push (λ other. ¬ R x other) xs y first (All-head (λ it. ¬ R it y) x xs none),
  apart_more R xs y apart (All-tail (λ it. ¬ R it y) x xs none),
)

pub apart_map : {X Y : Type 0} (R : X → X → Type 0) (S : Y → Y → Type 0) (f : X → Y) (P : X → Type 0) (xs : List X) → All P xs → ((x y : X) → P x → P y → S (f x) (f y) → R x y) →
    AreUnlike R xs → AreUnlike S (map f xs)
apart_map R S f P [] all alike apart = tt
apart_map R S f P (x ∷ xs) all alike (first, apart) = (
  All-map (λ other. ¬ S (f x) other) f xs (λ k d lt. λ same. first k d lt (alike x (get_or xs k d) (All-head P x xs all) (All-tail P x xs all k d lt) same)),
  apart_map R S f P xs (All-tail P x xs all) alike apart,
)

-- ---- places

lacks_more : (text : List ℕ) (c : ℕ) → c ≢ line_feed → IsTrue (lacks line_feed text) → IsTrue (lacks line_feed (text ++ c ∷ []))
lacks_more text c other plain =
    list_all-append (λ d. not (d == line_feed)) text (c ∷ []) ∙ ap (λ b. b && (not (c == line_feed) && true)) plain ∙ ap (λ b. not b && true) (ne_eqb c line_feed other)

scalars_more : (text : List ℕ) (c : ℕ) → IsScalar c → IsTrue (all_scalars text) → IsTrue (all_scalars (text ++ c ∷ []))
scalars_more [] c scalar good = and_from _ true scalar refl
scalars_more (d ∷ text) c scalar good = let both = and_parts _ _ good in and_from _ _ both.0 (scalars_more text c scalar both.1)

-- The place of the empty text.
pub start_placed : (conditions : List Condition) (place : Place) → IsPlaceOf (joint_starts conditions) [] place → IsPlaced conditions place
start_placed conditions place (flags_are, text_is) = record {
  flags = flags_are ∙ starts_after conditions ∙ ap (λ t. joint_after conditions t) (sym text_is);
  line = subst IsLine (sym text_is) (record { scalars = refl; plain = refl });
}

-- A line is one still after a further character.
pub line_more : (text : List ℕ) (c : ℕ) → IsScalar c → c ≢ line_feed → IsLine text → IsLine (text ++ c ∷ [])
line_more text c scalar plain line = record { scalars = scalars_more text c scalar line.scalars; plain = lacks_more text c plain line.plain }

-- A place is reached by a further character.
pub step_placed : (conditions : List Condition) (place next : Place) (c : ℕ) → IsScalar c → c ≢ line_feed → IsPlaced conditions place →
    IsPlaceOf (joint_moved conditions place.flags.items c) (place.text.items ++ c ∷ []) next → IsPlaced conditions next
step_placed conditions place next c scalar plain placed (flags_are, text_is) = record {
  flags = flags_are ∙ ap (λ f. joint_moved conditions f c) placed.flags ∙ moved_after conditions place.text.items c ∙ ap (λ t. joint_after conditions t) (sym text_is);
  line = subst IsLine (sym text_is) (line_more place.text.items c scalar plain placed.line);
}

-- A copy of a place.
pub copy_placed : (conditions : List Condition) (place copy : Place) → IsPlaced conditions place → IsPlaceOf place.flags.items place.text.items copy → IsPlaced conditions copy
copy_placed conditions place copy placed (flags_are, text_is) = record {
  flags = flags_are ∙ placed.flags ∙ ap (λ t. joint_after conditions t) (sym text_is);
  line = subst IsLine (sym text_is) placed.line;
}

pub no_places : (conditions : List Condition) → ArePlaces conditions []
no_places conditions = record { placed = All-nil (IsPlaced conditions); apart = tt }

-- A further place, with other sets.
pub places_more : (conditions : List Condition) (places : List Place) (next : Place) → ArePlaces conditions places → IsPlaced conditions next → ¬ IsPlaceSeen places next.flags.items →
    ArePlaces conditions (places ++ next ∷ [])
places_more conditions places next are placed new = record {
  placed = All-push (IsPlaced conditions) places next are.placed placed;
  apart = apart_more (λ (place other : Place). place.flags.items ≡ other.flags.items) places next are.apart
      (λ k d lt. λ same. new (get_or places k d, Contains-get_or places k d lt, same));
}

-- What is seen stays seen.
pub seen_longer : (old new : List Place) (flags : List Bool) → IsExtendedBy old new → IsPlaceSeen old flags → IsPlaceSeen new flags
seen_longer old new flags (more, e) (place, has, same) = (place, subst (λ l. Contains l place) (sym e) (Contains-append_left old more place has), same)

pub extended_longer : (old mid new : List Place) → IsExtendedBy old mid → IsExtendedBy mid new → IsExtendedBy old new
extended_longer old mid new (more, e) (last, f) = (more ++ last, f ∙ ap (λ l. l ++ last) e ∙ append_assoc old more last)

-- ---- results

-- The text of a place whose sets meet the conditions.
pub place_met : (conditions : List Condition) (place : Place) → IsPlaced conditions place → IsTrue (are_met conditions place.flags.items) → Meets conditions place.text.items
place_met conditions place placed met = (met_after conditions place.text.items).0 (ap (λ f. are_met conditions f) (sym placed.flags) ∙ met)

-- Many places have many sets.
pub many_sets : (conditions : List Condition) (places : List Place) (most : ℕ) → ArePlaces conditions places → most < length places → HasManySets conditions most
many_sets conditions places most are many = (
  map (λ (place : Place). place.text.items) places,
  subst (λ n. most < n) (sym (length-map places (λ (place : Place). place.text.items))) many,
  All-map IsLine (λ (place : Place). place.text.items) places (λ k d lt. (are.placed k d lt).line),
  apart_map (λ (place other : Place). place.flags.items ≡ other.flags.items) (LeadAlike conditions) (λ (place : Place). place.text.items) (IsPlaced conditions) places are.placed
      (λ one other here there alike. here.flags ∙ alike_after conditions one.text.items other.text.items alike ∙ sym there.flags)
      are.apart,
)

-- Each place to which the place leads is seen.
abbrev pub IsFollowed : List Condition → (places : List Place) → Place → Type 0
IsFollowed conditions places place = (c : ℕ) → IsScalar c → c ≢ line_feed → IsPassedBy conditions c places place

-- A place that is followed by one character of each class is followed by each.
pub followed_all : (conditions : List Condition) (exits : List Exits) (classes : List ℕ) (places : List Place) (place : Place) → AreExits conditions place.flags.items exits → AreClasses exits classes →
    IsFollowedIn conditions classes places place → IsFollowed conditions places place
followed_all conditions exits classes places place lead are followed c scalar plain =
    let (same, listed, other_feed, alike) = are c scalar plain in
    subst (λ f. IsTrue (are_open conditions f) → IsPlaceSeen places f) (sym (lead same) ∙ alike ∙ lead c) (followed same listed other_feed)

-- The place does not meet the conditions, and each place to which it leads is seen.
pub record IsDoneIn (conditions : List Condition) (places : List Place) (place : Place) : Type 0 where
  pub unmet : are_met conditions place.flags.items ≡ false
  pub followed : IsFollowed conditions places place

and_first : (a b : Bool) → (a && b) ≡ true → (a ≡ true) × (b ≡ true)
and_first true b h = (refl, h)
and_first false b h = absurd cc

-- From sets that are seen, or closed, no text meets the conditions.
onward : (conditions : List Condition) (places : List Place) (from : List Bool) (text : List ℕ) (b : Bool) → are_open conditions from ≡ b → length from ≡ width conditions →
    (IsTrue (are_open conditions from) → IsPlaceSeen places from) → ((place : Place) → Contains places place → are_met conditions (joint_by conditions place.flags.items text) ≡ false) →
    are_met conditions (joint_by conditions from text) ≡ false
onward conditions places from text true e long seen left =
    let (place, has, same) = seen e in subst (λ f. are_met conditions (joint_by conditions f text) ≡ false) same (left place has)
onward conditions places from text false e long seen left = never_met conditions from text long e

-- If each place is done, no text is left out.
nothing_left : (conditions : List Condition) (places : List Place) → All (IsPlaced conditions) places →
    All (IsDoneIn conditions places) places → (text : List ℕ) → IsTrue (all_scalars text) → IsTrue (lacks line_feed text) → (place : Place) → Contains places place →
    are_met conditions (joint_by conditions place.flags.items text) ≡ false
nothing_left conditions places placed done [] fine plain place has = (All-contains (IsDoneIn conditions places) places place done has).unmet
nothing_left conditions places placed done (c ∷ text) fine plain place has =
    let it = All-contains (IsDoneIn conditions places) places place done has in
    let here = All-contains (IsPlaced conditions) places place placed has in
    let two = and_first _ (all_scalars text) fine in
    let no_feed = and_first (not (c == line_feed)) (lacks line_feed text) plain in
    let other_feed : c ≢ line_feed = λ e. let h : (c == line_feed) ≡ true = eq-eqb c line_feed e in let k : not (c == line_feed) ≡ false = ap not h in absurd cc in
    let from = place.flags.items in
    let long : length from ≡ width conditions = ap length here.flags ∙ length_joint conditions place.text.items in
    onward conditions places (joint_moved conditions from c) text (are_open conditions (joint_moved conditions from c)) refl (length_joint_moved conditions from c long)
    (it.followed c two.0 other_feed) (nothing_left conditions places placed done text two.1 no_feed.1)

pub nothing_found : (conditions : List Condition) (places : List Place) → All (IsPlaced conditions) places →
    All (IsDoneIn conditions places) places → (IsTrue (are_open conditions (joint_starts conditions)) → IsPlaceSeen places (joint_starts conditions)) →
    (text : List ℕ) → IsLine text → ¬ Meets conditions text
nothing_found conditions places placed done starts text line met =
    let long : length (joint_starts conditions) ≡ width conditions = ap length (starts_after conditions) ∙ length_joint conditions [] in
    let unmet = onward conditions places (joint_starts conditions) text (are_open conditions (joint_starts conditions)) refl long starts
    (nothing_left conditions places placed done text line.scalars line.plain) in
    let here = (met_after conditions text).1 met in
    let by : joint_after conditions text ≡ joint_by conditions (joint_starts conditions) text = after_by conditions [] text ∙ ap (λ f. joint_by conditions f text) (sym (starts_after conditions)) in
    false≢true (sym unmet ∙ ap (λ f. are_met conditions f) (sym by) ∙ here)

-- ---- loops

done_longer : (conditions : List Condition) (old new : List Place) (place : Place) → IsExtendedBy old new → IsDoneIn conditions old place → IsDoneIn conditions new place
done_longer conditions old new place extended done = record {
  unmet = done.unmet;
  followed = λ c scalar plain opens. seen_longer old new (joint_moved conditions place.flags.items c) extended (done.followed c scalar plain opens);
}

pub done_next : (conditions : List Condition) (old new : List Place) (next : ℕ) (place copy : Place) → IsExtendedBy old new → next < length old → place ≡ get_or old next place →
    IsPlaceOf place.flags.items place.text.items copy → are_met conditions copy.flags.items ≡ false → IsFollowed conditions new copy →
    All (IsDoneIn conditions old) (take next old) → All (IsDoneIn conditions new) (take (next + 1) new)
done_next conditions old new next place copy (more, e) lt at (flags_are, text_is) unmet followed done =
    let P = IsDoneIn conditions new in
    let long : length new ≡ length old + length more = ap length e ∙ length-append old more in
    let front : take next new ≡ take next old = ap (λ l. take next l) e ∙ take-append-le next old more (omega arith) in
    let before : All P (take next new) = subst (λ l. All P l) (sym front)
    (All-weaker (IsDoneIn conditions old) P (λ it. done_longer conditions old new it (more, e)) (take next old) done) in
    let here : get_or new next place ≡ place = ap (λ l. get_or l next place) e ∙ get_or_append_left old more place next lt ∙ sym at in
    let this : P place = record {
      unmet = subst (λ f. are_met conditions f ≡ false) flags_are unmet;
      followed = λ c scalar plain. subst (λ f. IsTrue (are_open conditions (joint_moved conditions f c)) → IsPlaceSeen new (joint_moved conditions f c)) flags_are (followed c scalar plain);
    } in
    All-more P new next place (omega arith) before (subst P (sym here) this)
