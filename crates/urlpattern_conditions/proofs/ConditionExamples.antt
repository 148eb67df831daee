-- Worked examples of what conditions mean.
use Rattle.std.proofs.Common.{◌≡◌, ℕ, List, [], ◌∷◌, Option, bytes_eq, codes, inl, inr, refl, sym, true, true≢false}
use Rattle.std.proofs.lemmas.Option.{same_Some}
use Rattle.std.proofs.lemmas.Slice.Eq.{bytes_eq-Decides}
use Rattle.urlpattern_components.specs.Eight.{each}
use Rattle.urlpattern_conditions.specs.Conditions.{ConditionView, Holds, condition, no_conditions, of_all, of_any, of_name, of_not}
use Rattle.urlpattern_conditions.specs.Requests.{RequestView}
use Rattle.urlpattern_meaning.specs.PartMeaning.{Captures}

module _ {E : Type 0} (answer : E → List ℕ → Option Captures) where
  -- A request whose only attribute, its method, is `GET`.
  abbrev get : RequestView
  get = record { texts = each (λ name. []); names = codes "GET" ∷ [] }

  abbrev method : List ℕ → ConditionView E
  method name = of_name 0 name

  -- Of no conditions, each holds, and none does.
  all_of_none : Holds answer get (of_all no_conditions)
  all_of_none = tt

  any_of_none : ¬ Holds answer get (of_any no_conditions)
  any_of_none never = never

  not_any_of_none : Holds answer get (of_not (of_any no_conditions))
  not_any_of_none never = never

  -- A request with the first or the second of two methods.
  get_or_post : Holds answer get (of_any (condition (method (codes "GET")) (condition (method (codes "POST")) no_conditions)))
  get_or_post = inl refl

  post_or_get : Holds answer get (of_any (condition (method (codes "POST")) (condition (method (codes "GET")) no_conditions)))
  post_or_get = inr (inl refl)

  -- Case counts, and a condition and its opposite never hold together.
  not_lower : ¬ Holds answer get (method (codes "get"))
  not_lower same =
      let equal : bytes_eq (codes "GET") (codes "get") ≡ true = (bytes_eq-Decides (codes "GET") (codes "get")).1 (same_Some (codes "GET") (codes "get") same) in
      true≢false (sym equal)

  never_both : (one : ConditionView E) → ¬ Holds answer get (of_all (condition one (condition (of_not one) no_conditions)))
  never_both one both = both.1.0 both.0

  -- A request has no second attribute.
  no_second : (name : List ℕ) → ¬ Holds answer get (of_name 1 name)
  no_second name same = absurd cc
