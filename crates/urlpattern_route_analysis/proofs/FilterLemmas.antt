-- What a function that may give nothing gives of a list.
use Rattle.std.proofs.Common.{◌≡◌, ◌∙◌, List, [], ◌∷◌, None, Option, Some, ap, map, option_map, refl, subst, sym}
use Rattle.std.proofs.lemmas.List.Elements.{All-cons, All-head, All-nil, All-tail}
use Rattle.std.proofs.lemmas.Option.{none-some, same_Some}
use Rattle.std.specs.List.{cons_option, filter_map}
use Rattle.std.specs.Prelude.{All}

module _ {X Y : Type 0} (P : Y → Type 0) (h : X → Option Y) where
  -- What is given of the item has the property.
  abbrev pub Passes : X → Type 0
  Passes x = (y : Y) → h x ≡ Some y → P y

  all_of : (found : Option Y) (given : List Y) → ((y : Y) → found ≡ Some y → P y) → All P given → All P (cons_option found given)
  all_of None given own rest = rest
  all_of (Some y) given own rest = All-cons P y given (own y refl) rest

  pub All-filter_map : (xs : List X) → All Passes xs → All P (filter_map h xs)
  All-filter_map [] each = All-nil P
  All-filter_map (x ∷ xs) each = all_of (h x) (filter_map h xs) (All-head Passes x xs each) (All-filter_map xs (All-tail Passes x xs each))

  parts_of_all : (found : Option Y) (given : List Y) → All P (cons_option found given) → ((y : Y) → found ≡ Some y → P y) × All P given
  parts_of_all None given all = (λ y is. absurd (none-some y is), all)
  parts_of_all (Some own) given all = (λ y is. subst P (same_Some own y is) (All-head P own given all), All-tail P own given all)

  pub each-filter_map : (xs : List X) → All P (filter_map h xs) → All Passes xs
  each-filter_map [] all = All-nil Passes
  each-filter_map (x ∷ xs) all =
      let parts = parts_of_all (h x) (filter_map h xs) all in All-cons Passes x xs parts.0 (each-filter_map xs parts.1)

module _ {X Y Z W : Type 0} (f : Y → W) (g : Z → W) (h : X → Option Y) (k : X → Option Z) where
  same_first : (y : Option Y) (z : Option Z) (ys : List Y) (zs : List Z) → option_map f y ≡ option_map g z → map f ys ≡ map g zs → map f (cons_option y ys) ≡ map g (cons_option z zs)
  same_first None None ys zs alike rest = rest
  same_first None (Some z) ys zs alike rest = absurd (none-some (g z) alike)
  same_first (Some y) None ys zs alike rest = absurd (none-some (f y) (sym alike))
  same_first (Some y) (Some z) ys zs alike rest = ap (λ (w : W). w ∷ map f ys) (same_Some (f y) (g z) alike) ∙ ap (λ (l : List W). g z ∷ l) rest

  -- Two functions that give alike of each item give alike of a list.
  pub map-filter_map : ((x : X) → option_map f (h x) ≡ option_map g (k x)) → (xs : List X) → map f (filter_map h xs) ≡ map g (filter_map k xs)
  map-filter_map same [] = refl
  map-filter_map same (x ∷ xs) = same_first (h x) (k x) (filter_map h xs) (filter_map k xs) (same x) (map-filter_map same xs)
