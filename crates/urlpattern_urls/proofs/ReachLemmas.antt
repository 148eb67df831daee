-- Patterns that cover another one on URLs, by those that do so together with the facts on URLs.
use Rattle.std.proofs.Common.{◌≡◌, ◌∙◌, ◌<◌, ◌≤◌, ◌+◌, ◌-◌, ◌++◌, ℕ, zero, suc, true, false, List, [], ◌∷◌, ap, append-nil, arith, inl, inr, length, length-append, map, refl, subst, sym, get_or, take}
use Rattle.std.proofs.lemmas.Bool.{cases_lt, le-ltb, lt-ltb}
use Rattle.std.proofs.lemmas.Grind.{flat_map-append}
use Rattle.std.proofs.lemmas.List.{take_more}
use Rattle.std.proofs.lemmas.List.Elements.{All-append, All-cons, All-head, All-nil, All-tail, All-weaker}
use Rattle.std.specs.List.{All}
use Rattle.std.specs.Option.{option_to_list}
use Rattle.std.specs.Prelude.{if◌then◌else◌, nat_lt, slice_get}
use Rattle.urlpattern_compare.proofs.CandidateLemmas.{all_back}
use Rattle.urlpattern_compare.specs.CoveringTogether.{AreAscending, AreNeeded, IsLeastCover, at_each}
use Rattle.urlpattern_compare.specs.declared.candidates.Limits.{Limits}
use Rattle.urlpattern_compare.specs.declared.common_texts.PatternAutomata.{PatternAutomata}
use Rattle.urlpattern_urls.proofs.CommonUrlLemmas.{IsOne, Never, no_url_before}
use Rattle.urlpattern_urls.specs.UrlReaching.{IsUrlCover, later, later_one}

-- ---- indices

-- The indices below `count` at the front.
abbrev front : (count : ℕ) → List ℕ → List ℕ
front count [] = []
front count (index ∷ others) = if nat_lt index count then (index ∷ front count others) else []

shifted : (count index : ℕ) → count ≤ index → count + (index - count) ≡ index
shifted count index le = omega (arith, le)

-- Indices that are all at least `count`.
all_later : (count : ℕ) (indices : List ℕ) → All (λ index. count ≤ index) indices → indices ≡ map (λ index. count + index) (later count indices)
all_later count [] all = refl
all_later count (index ∷ others) all =
    let le = All-head (λ index. count ≤ index) index others all in
    let not_below : nat_lt index count ≡ false = le-ltb index count le in
    rw (not_below, shifted count index le) (ap (λ l. index ∷ l) (all_later count others (All-tail (λ index. count ≤ index) index others all)))

later_after : (count index : ℕ) (others : List ℕ) → count ≤ index → All (λ other. index < other) others → All (λ other. count ≤ other) others
later_after count index others le all = All-weaker (λ other. index < other) (λ other. count ≤ other) (λ other lt. omega (arith, le, lt)) others all

-- Indices that ascend are those below `count`, with the others after them.
split : (count : ℕ) (indices : List ℕ) → AreAscending indices → indices ≡ front count indices ++ map (λ index. count + index) (later count indices)
split count [] ascending = refl
split count (index ∷ others) ascending = elim (cases_lt index count) [
  | inl lt ↦
      let below : nat_lt index count ≡ true = lt-ltb index count lt in
      rw below (ap (λ l. index ∷ l) (split count others ascending.1))
  | inr le ↦
      let not_below : nat_lt index count ≡ false = le-ltb index count le in
      rw (not_below, shifted count index le) (ap (λ l. index ∷ l) (all_later count others (later_after count index others le ascending.0)))
]

front_below : (count : ℕ) (indices : List ℕ) → All (λ index. index < count) (front count indices)
front_below count [] = All-nil (λ index. index < count)
front_below count (index ∷ others) = elim (cases_lt index count) [
  | inl lt ↦
      let below : nat_lt index count ≡ true = lt-ltb index count lt in
      rw below (All-cons (λ index. index < count) index (front count others) lt (front_below count others))
  | inr le ↦ let not_below : nat_lt index count ≡ false = le-ltb index count le in rw not_below (All-nil (λ index. index < count))
]

-- What ascends after others ascends.
ascends_after : (before after : List ℕ) → AreAscending (before ++ after) → AreAscending after
ascends_after [] after ascending = ascending
ascends_after (index ∷ before) after ascending = ascends_after before after ascending.1

ascends_less : (count : ℕ) (indices : List ℕ) → AreAscending (map (λ index. count + index) indices) → AreAscending indices
ascends_less count [] ascending = tt
ascends_less count (index ∷ others) ascending = (all_less others ascending.0, ascends_less count others ascending.1)
  where
    all_less : (more : List ℕ) → All (λ other. count + index < other) (map (λ index. count + index) more) → All (λ other. index < other) more
    all_less [] all = All-nil (λ other. index < other)
    all_less (other ∷ more) all =
        let first = All-head (λ other. count + index < other) (count + other) (map (λ index. count + index) more) all in
        All-cons (λ other. index < other) other more (omega (arith, first)) (all_less more (All-tail (λ other. count + index < other) (count + other) (map (λ index. count + index) more) all))

within_less : (count more : ℕ) (indices : List ℕ) → All (λ index. index < count + more) (map (λ index. count + index) indices) → All (λ index. index < more) indices
within_less count more [] all = All-nil (λ index. index < more)
within_less count more (index ∷ others) all =
    let first = All-head (λ index. index < count + more) (count + index) (map (λ index. count + index) others) all in
    All-cons (λ index. index < more) index others (omega (arith, first)) (within_less count more others (All-tail (λ index. index < count + more) (count + index) (map (λ index. count + index) others) all))

-- ---- values at indices

get_after : {X : Type 0} (xs ys : List X) (index : ℕ) → slice_get (xs ++ ys) (length xs + index) ≡ slice_get ys index
get_after [] ys index = let none : 0 + index ≡ index = omega arith in ap (slice_get ys) none
get_after (x ∷ xs) ys index = let more : length (x ∷ xs) + index ≡ suc (length xs + index) = omega arith in ap (slice_get (x ∷ xs ++ ys)) more ∙ get_after xs ys index

each_after : {X : Type 0} (xs ys : List X) (indices : List ℕ) → at_each (xs ++ ys) (map (λ index. length xs + index) indices) ≡ at_each ys indices
each_after xs ys [] = refl
each_after xs ys (index ∷ others) =
    ap (λ o. option_to_list o ++ at_each (xs ++ ys) (map (λ index. length xs + index) others)) (get_after xs ys index)
    ∙ ap (λ l. option_to_list (slice_get ys index) ++ l) (each_after xs ys others)

get_first : {X : Type 0} (P : X → Type 0) (xs ys : List X) (index : ℕ) → All P xs → index < length xs → All P (option_to_list (slice_get (xs ++ ys) index))
get_first P [] ys index all lt = absurd (omega (arith, lt))
get_first P (x ∷ xs) ys zero all lt = All-cons P x [] (All-head P x xs all) (All-nil P)
get_first P (x ∷ xs) ys (suc index) all lt = get_first P xs ys index (All-tail P x xs all) (omega (arith, lt))

each_first : {X : Type 0} (P : X → Type 0) (xs ys : List X) (indices : List ℕ) → All P xs → All (λ index. index < length xs) indices → All P (at_each (xs ++ ys) indices)
each_first P xs ys [] all below = All-nil P
each_first P xs ys (index ∷ others) all below =
    All-append P (option_to_list (slice_get (xs ++ ys) index)) (at_each (xs ++ ys) others)
    (get_first P xs ys index all (All-head (λ index. index < length xs) index others below))
    (each_first P xs ys others all (All-tail (λ index. index < length xs) index others below))

-- ---- covers

needed_after : (limits : Limits) (patterns : List PatternAutomata) (asked : PatternAutomata) (before after : List ℕ) → AreNeeded limits patterns asked (before ++ after) → AreNeeded limits patterns asked after
needed_after limits patterns asked [] after needed = needed
needed_after limits patterns asked (index ∷ before) after needed = needed_after limits patterns asked before after needed.1

pub url_cover : (facts patterns : List PatternAutomata) (limits : Limits) (asked : PatternAutomata) (by : List ℕ) → All IsOne facts → IsLeastCover limits (facts ++ patterns) asked by
    → IsUrlCover facts limits patterns asked (later (length facts) by)
url_cover facts patterns limits asked by are_facts is =
    let count = length facts in
    let first = front count by in
    let own = later count by in
    let moved = map (λ index. count + index) own in
    let parted : by ≡ first ++ moved = split count by is.ascending in
    let all : List PatternAutomata = facts ++ patterns in
    let taken : at_each all by ≡ at_each all first ++ at_each patterns own =
    ap (at_each all) parted ∙ flat_map-append (λ index. option_to_list (slice_get all index)) first moved ∙ ap (λ l. at_each all first ++ l) (each_after facts patterns own) in
    let within : All (λ index. index < count + length patterns) by = subst (λ (n : ℕ). All (λ index. index < n) by) (length-append facts patterns) is.within in
    record {
      within = within_less count (length patterns) own (all_back (λ index. index < count + length patterns) first moved (subst (λ (l : List ℕ). All (λ index. index < count + length patterns) l) parted within));
      ascending = ascends_less count own (ascends_after first moved (subst AreAscending parted is.ascending));
      cover = no_url_before (asked ∷ []) (at_each patterns own) (at_each all first) (each_first IsOne facts patterns first are_facts (front_below count by))
          (subst (λ (l : List PatternAutomata). Never (asked ∷ []) l) taken is.cover);
      needed = needed_after limits all asked first moved (subst (AreNeeded limits all asked) parted is.needed);
    }

-- ---- one index more

pub later_more : (count : ℕ) (indices old new : List ℕ) (i : ℕ) → i < length indices → old ≡ later count (take i indices) → new ≡ old ++ later_one count (get_or indices i 0) → new ≡ later count (take (i + 1) indices)
later_more count indices old new i lt before grown =
    let index = get_or indices i 0 in
    grown ∙ ap (λ l. l ++ later_one count index) before ∙ ap (λ l. later count (take i indices) ++ l) (sym (append-nil (later_one count index)))
    ∙ sym (flat_map-append (later_one count) (take i indices) (index ∷ [])) ∙ ap (later count) (sym (take_more indices i 0 lt))
