-- Lemmas on lists beside each other, and on what a list has at an index.
use Rattle.std.proofs.Common.{◌≡◌, ◌∙◌, ◌⊎◌, ◌<◌, ◌+◌, ℕ, All, zero, suc, List, [], ◌∷◌, ◌++◌, Some, ap, arith, get_or, inl, inr, length, map, slice_get, subst, sym, take}
use Rattle.std.proofs.lemmas.List.{flat_map_more, map-append, take_more}
use Rattle.std.proofs.lemmas.List.Elements.{All-push}
use Rattle.std.proofs.lemmas.Option.{get_or_from_slice_get, slice_get-get_or, slice_get-map, slice_get_within}
use Rattle.std.proofs.lemmas.Slice.Zip.{all_zipped_more}
use Rattle.std.specs.List.{AllZip, flat_map}
use Rattle.std.specs.Prelude.{option_map}

-- What is beside the next element is appended.
pub zip-taken : {A B : Type 0} (R : A → B → Type 0) (xs : List A) (index : ℕ) (none : A) (ys : List B) (y : B) → index < length xs → AllZip R (take index xs) ys
    → R (get_or xs index none) y → AllZip R (take (index + 1) xs) (ys ++ y ∷ [])
zip-taken R xs index none ys y within are is =
    subst (λ them. AllZip R them (ys ++ y ∷ [])) (sym (take_more xs index none within)) (all_zipped_more R (take index xs) ys (get_or xs index none) y are is)

-- The list that is mapped has one more element.
pub map-taken : {A B : Type 0} (f : A → B) (xs : List A) (index : ℕ) (none : A) → index < length xs
    → map f (take (index + 1) xs) ≡ map f (take index xs) ++ f (get_or xs index none) ∷ []
map-taken f xs index none within = ap (map f) (take_more xs index none within) ∙ map-append f (take index xs) (get_or xs index none ∷ [])

-- What is beside what the next element is mapped to is appended.
pub zip-map-taken : {A B C : Type 0} (R : B → C → Type 0) (f : A → B) (xs : List A) (index : ℕ) (none : A) (ys : List C) (y : C) → index < length xs → AllZip R (map f (take index xs)) ys
    → R (f (get_or xs index none)) y → AllZip R (map f (take (index + 1) xs)) (ys ++ y ∷ [])
zip-map-taken R f xs index none ys y within are is =
    subst (λ them. AllZip R them (ys ++ y ∷ [])) (sym (map-taken f xs index none within)) (all_zipped_more R (map f (take index xs)) ys (f (get_or xs index none)) y are is)

-- What holds of the next element holds of all so far.
pub all-taken : {A : Type 0} (P : A → Type 0) (xs : List A) (index : ℕ) (none : A) → index < length xs → All P (take index xs) → P (get_or xs index none) → All P (take (index + 1) xs)
all-taken P xs index none within are is = subst (All P) (sym (take_more xs index none within)) (All-push P (take index xs) (get_or xs index none) are is)

-- An element that a list has at an index.
pub got : {A : Type 0} (xs : List A) (index : ℕ) (x : A) → slice_get xs index ≡ Some x → (index < length xs) × (x ≡ get_or xs index x)
got xs index x at = (slice_get_within xs index x at, sym (get_or_from_slice_get xs index x x at))

-- What a list has at an index, with one more element at its end.
pub get-push : {A : Type 0} (xs : List A) (x it : A) (index : ℕ) → slice_get (xs ++ x ∷ []) index ≡ Some it
    → ((index < length xs) × (slice_get xs index ≡ Some it)) ⊎ ((index ≡ length xs) × (x ≡ it))
get-push [] x it zero at = inr (cc, cc)
get-push [] x it (suc index) at = absurd cc
get-push (y ∷ xs) x it zero at = inl (omega arith, at)
get-push (y ∷ xs) x it (suc index) at = elim (get-push xs x it index at) [
  | inl is ↦ inl (omega (arith, is.0), is.1)
  | inr is ↦ inr (omega (arith, is.0), is.1)
]

-- What a list that is mapped has at an index below its length.
pub there-mapped : {A B : Type 0} (f : A → B) (xs : List A) (index : ℕ) (none : A) → index < length xs → slice_get (map f xs) index ≡ Some (f (get_or xs index none))
there-mapped f xs index none within = slice_get-map f xs index ∙ ap (option_map f) (slice_get-get_or xs index none within)

-- What the next element gives is appended.
pub flat-more : {A B : Type 0} (f : A → List B) (xs : List A) (index : ℕ) (none : A) (start old new : List B) → index < length xs → old ≡ start ++ flat_map f (take index xs)
    → new ≡ old ++ f (get_or xs index none) → new ≡ start ++ flat_map f (take (index + 1) xs)
flat-more {A} {B} f xs index none start old new within are goes =
    goes
    ∙ ap (λ (them : List B). them ++ f (get_or xs index none)) are
    ∙ flat_map_more f start (take index xs) (get_or xs index none)
    ∙ ap (λ (them : List A). start ++ flat_map f them) (sym (take_more xs index none within))

-- What the next element gives, as `g` sees it, is appended.
pub flat-map-more : {A B C : Type 0} (f : B → List C) (g : A → B) (xs : List A) (index : ℕ) (none : A) (start old new : List C) → index < length xs
    → old ≡ start ++ flat_map f (map g (take index xs)) → new ≡ old ++ f (g (get_or xs index none)) → new ≡ start ++ flat_map f (map g (take (index + 1) xs))
flat-map-more {A} {B} {C} f g xs index none start old new within are goes =
    goes
    ∙ ap (λ (them : List C). them ++ f (g (get_or xs index none))) are
    ∙ flat_map_more f start (map g (take index xs)) (g (get_or xs index none))
    ∙ ap (λ (them : List B). start ++ flat_map f them) (sym (map-taken g xs index none within))

-- Two lists beside two others.
pub zipped-both : {A B : Type 0} (R : A → B → Type 0) (xs more : List A) (ys others : List B) → AllZip R xs ys → AllZip R more others → AllZip R (xs ++ more) (ys ++ others)
zipped-both R [] more [] others are too = too
zipped-both R [] more (y ∷ ys) others are too = absurd are
zipped-both R (x ∷ xs) more [] others are too = absurd are
zipped-both R (x ∷ xs) more (y ∷ ys) others are too = (are.0, zipped-both R xs more ys others are.1 too)
