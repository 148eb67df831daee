-- Patterns that cover another one together.
use Rattle.std.proofs.Common.{◌≡◌, ◌∙◌, ◌<◌, ◌≤◌, ◌+◌, ◌/◌, ℕ, zero, suc, List, [], ◌∷◌, ◌++◌, ap, append-nil, append_assoc, arith, get_or, take, length, map, refl, subst, sym, take_all, Option, Some, None}
use Rattle.std.proofs.Math.Nat.{div-lt_self}
use Rattle.std.proofs.lemmas.Grind.{flat_map-append}
use Rattle.std.proofs.lemmas.List.{map-append, take-map, take_more}
use Rattle.std.proofs.lemmas.List.Elements.{All-append, All-cons, All-nil, All-take, All-weaker}
use Rattle.std.proofs.lemmas.Option.{get_or_from_slice_get, slice_get-map, slice_get_within}
use Rattle.std.specs.List.{All}
use Rattle.std.specs.Option.{option_to_list}
use Rattle.std.specs.Prelude.{option_map, slice_get}
use Rattle.urlpattern_compare.specs.CoveringTogether.{AreAscending, AreCovering, AreNeeded, IsFewest, IsLeastCover, at_each, before_last, with_last}
use Rattle.urlpattern_compare.specs.declared.candidates.Limits.{Limits}
use Rattle.urlpattern_compare.specs.declared.common_texts.PatternAutomata.{PatternAutomata}

-- ---- values at indices

pub each_more : {X : Type 0} (xs : List X) (indices : List ℕ) (i : ℕ) → i < length indices → at_each xs (take (i + 1) indices) ≡ at_each xs (take i indices) ++ at_each xs (get_or indices i 0 ∷ [])
each_more xs indices i lt =
    ap (at_each xs) (take_more indices i 0 lt) ∙ flat_map-append (λ index. option_to_list (slice_get xs index)) (take i indices) (get_or indices i 0 ∷ [])

first_next : {X : Type 0} (xs : List X) (i : ℕ) → take i xs ++ at_each xs (i ∷ []) ≡ take (suc i) xs
first_next [] zero = refl
first_next [] (suc i) = refl
first_next (x ∷ xs) zero = refl
first_next (x ∷ xs) (suc i) = ap (λ l. x ∷ l) (first_next xs i)

pub first_more : {X : Type 0} (xs : List X) (i : ℕ) → take i xs ++ at_each xs (i ∷ []) ≡ take (i + 1) xs
first_more xs i = let e : suc i ≡ i + 1 = omega arith in first_next xs i ∙ ap (λ n. take n xs) e

-- The last of the first values is that at the first index.
last_moved : {X : Type 0} (xs : List X) (i : ℕ) (indices : List ℕ) → take (suc i) xs ++ at_each xs indices ≡ take i xs ++ at_each xs (i ∷ indices)
last_moved xs i indices =
    ap (λ l. l ++ at_each xs indices) (sym (first_next xs i)) ∙ append_assoc (take i xs) (at_each xs (i ∷ [])) (at_each xs indices)
    ∙ ap (λ l. take i xs ++ l) (sym (flat_map-append (λ index. option_to_list (slice_get xs index)) (i ∷ []) indices))

at_map : {X Y : Type 0} (f : X → Y) (xs : List X) (index : ℕ) → map f (option_to_list (slice_get xs index)) ≡ option_to_list (slice_get (map f xs) index)
at_map f xs index = by (slice_get xs index) ∙ ap option_to_list (sym (slice_get-map f xs index))
  where
    by : (found : Option _) → map f (option_to_list found) ≡ option_to_list (option_map f found)
    by None = refl
    by (Some x) = refl

each_map : {X Y : Type 0} (f : X → Y) (xs : List X) (indices : List ℕ) → map f (at_each xs indices) ≡ at_each (map f xs) indices
each_map f xs [] = refl
each_map f xs (index ∷ indices) =
    map-append f (option_to_list (slice_get xs index)) (at_each xs indices) ∙ ap (λ l. l ++ map f (at_each xs indices)) (at_map f xs index)
    ∙ ap (λ l. option_to_list (slice_get (map f xs) index) ++ l) (each_map f xs indices)

pub some_map : {X Y : Type 0} (f : X → Y) (xs some : List X) (count : ℕ) (indices : List ℕ) → some ≡ take count xs ++ at_each xs indices → map f some ≡ take count (map f xs) ++ at_each (map f xs) indices
some_map f xs some count indices e =
    ap (map f) e ∙ map-append f (take count xs) (at_each xs indices) ∙ ap (λ l. map f (take count xs) ++ l) (each_map f xs indices)
    ∙ ap (λ l. l ++ at_each (map f xs) indices) (sym (take-map f count xs))

pub all_each : {X : Type 0} (P : X → Type 0) (xs : List X) (indices : List ℕ) → All P xs → All P (at_each xs indices)
all_each P xs [] all = All-nil P
all_each P xs (index ∷ indices) all = All-append P (option_to_list (slice_get xs index)) (at_each xs indices) (by (slice_get xs index) refl) (all_each P xs indices all)
  where
    by : (found : Option _) → slice_get xs index ≡ found → All P (option_to_list found)
    by None there = All-nil P
    by (Some x) there = All-cons P x [] (subst P (get_or_from_slice_get xs index x x there) (all index x (slice_get_within xs index x there))) (All-nil P)

pub all_some : {X : Type 0} (P : X → Type 0) (xs : List X) (count : ℕ) (indices : List ℕ) → All P xs → All P (take count xs ++ at_each xs indices)
all_some P xs count indices all = All-append P (take count xs) (at_each xs indices) (All-take P count xs all) (all_each P xs indices all)

pub one_each : {X : Type 0} (xs : List X) (i : ℕ) (x : X) → slice_get xs i ≡ Some x → at_each xs (i ∷ []) ≡ x ∷ []
one_each xs i x there = ap (λ found. option_to_list found ++ []) there

pub none_each : {X : Type 0} (xs : List X) (i : ℕ) → length xs ≤ i → at_each xs (i ∷ []) ≡ []
none_each [] zero le = refl
none_each [] (suc i) le = refl
none_each (x ∷ xs) zero le = absurd (omega arith)
none_each (x ∷ xs) (suc i) le = none_each xs i (omega arith)

-- ---- the middle

pub half_below : (n : ℕ) → 1 < n → n / 2 < n
half_below n lt = div-lt_self (omega arith) (omega arith)

pub half_some : (n : ℕ) → 1 < n → 0 < n / 2
half_some zero lt = absurd (omega arith)
half_some (suc zero) lt = absurd (omega arith)
half_some (suc (suc n)) lt = omega arith

-- ---- what is left

module _ (limits : Limits) (patterns : List PatternAutomata) (asked : PatternAutomata) where
  -- The indices found so far, of patterns after the first `end`.
  pub record IsLeft (by : List ℕ) (end : ℕ) : Type 0 where
    pub first : end ≤ length patterns
    pub later : All (λ index. end ≤ index) by
    pub within : All (λ index. index < length patterns) by
    pub ascending : AreAscending by
    pub cover : AreCovering (take end patterns ++ at_each patterns by) asked
    pub needed : AreNeeded limits patterns asked by

  pub all_left : AreCovering patterns asked → IsLeft [] (length patterns)
  all_left cover = record {
    first = omega arith;
    later = All-nil (λ (index : ℕ). length patterns ≤ index);
    within = All-nil (λ (index : ℕ). index < length patterns);
    ascending = tt;
    cover = subst (λ them. AreCovering them asked) (sym (append-nil (take (length patterns) patterns) ∙ take_all (length patterns) patterns (omega arith))) cover;
    needed = tt;
  }

  next_left : (by : List ℕ) (end count : ℕ) → IsLeft by end → IsFewest limits patterns asked by end count → IsLeft (with_last count by) (before_last count)
  next_left by end zero left fewest = record {
    first = omega arith;
    later = All-weaker (λ (index : ℕ). end ≤ index) (λ (index : ℕ). 0 ≤ index) (λ index le. omega arith) by left.later;
    within = left.within;
    ascending = left.ascending;
    cover = fewest.cover;
    needed = left.needed;
  }
  next_left by end (suc last) left fewest =
      let within : suc last ≤ end = fewest.within in
      let first : end ≤ length patterns = left.first in
      record {
        first = omega arith;
        later = All-cons (λ (index : ℕ). last ≤ index) last by (omega arith)
            (All-weaker (λ (index : ℕ). end ≤ index) (λ (index : ℕ). last ≤ index) (λ index le. omega (arith, le, within)) by left.later);
        within = All-cons (λ (index : ℕ). index < length patterns) last by (omega arith) left.within;
        ascending = (All-weaker (λ (index : ℕ). end ≤ index) (λ (index : ℕ). last < index) (λ index le. omega (arith, le, within)) by left.later, left.ascending);
        cover = subst (λ them. AreCovering them asked) (last_moved patterns last by) fewest.cover;
        needed = (fewest.needed, left.needed);
      }

  pub next_is : (by new : List ℕ) (end count last : ℕ) → new ≡ with_last count by → last ≡ before_last count → IsLeft by end → IsFewest limits patterns asked by end count → IsLeft new last
  next_is by new end count last is_new is_last left fewest =
      subst (λ (n : ℕ). IsLeft new n) (sym is_last) (subst (λ (l : List ℕ). IsLeft l (before_last count)) (sym is_new) (next_left by end count left fewest))

  pub least : (by : List ℕ) (end : ℕ) → end ≤ 0 → IsLeft by end → IsLeastCover limits patterns asked by
  least by zero le left = record { within = left.within; ascending = left.ascending; cover = left.cover; needed = left.needed }
  least by (suc end) le left = absurd (omega arith)
