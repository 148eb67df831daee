-- Lemmas on what tables decide.
use Rattle.std.proofs.Common.{◌≡◌, ℕ, ◌+◌, ◌<◌, ◌≤◌, ◌∙◌, All, Bor, List, Option, Some, ap, get_or, length, map, option_map, refl, slice_get, subst, sym, take, take_all}
use Rattle.std.proofs.lemmas.List.Elements.{All-more}
use Rattle.std.proofs.lemmas.Option.{get_or_from_slice_get, slice_get-map, slice_get_read, slice_get_within}
use Rattle.urlpattern_conditions.specs.ConditionViews.{condition_view}
use Rattle.urlpattern_conditions.specs.Conditions.{AsksEngine, ConditionView, Holds}
use Rattle.urlpattern_conditions.specs.Requests.{RequestView}
use Rattle.urlpattern_conditions.specs.Tables.{AsksEngineFirst, IsFirstToHold, rule_conditions}
use Rattle.urlpattern_conditions.specs.declared.table.Rule.{Rule}
use Rattle.urlpattern_meaning.specs.PartMeaning.{Captures}

-- What a list has at a place is what a map of the list has there.
mapped-at : {X Y : Type 0} (f : X → Y) (xs : List X) (i : ℕ) (x : X) → i < length xs → x ≡ get_or xs i x → slice_get (map f xs) i ≡ Some (f x)
mapped-at f xs i x lt is = slice_get-map f xs i ∙ ap (option_map f) (slice_get_read xs _ i x refl lt is)

module _ {V E : Type 0} (answer : E → List ℕ → Option Captures) (request : RequestView) (rules : List (Rule V E)) where
  abbrev Fails : ConditionView E → Type 0
  Fails one = ¬ Holds answer request one

  abbrev pub NoneBefore : ℕ → Type 0
  NoneBefore i = All (λ one. ¬ Holds answer request one) (take i (rule_conditions rules))

  pub none-in-all : (i : ℕ) → length (rule_conditions rules) ≤ i → NoneBefore i → All (λ one. ¬ Holds answer request one) (rule_conditions rules)
  none-in-all i past none = subst (All (λ (one : ConditionView E). ¬ Holds answer request one)) (take_all i (rule_conditions rules) past) none

  module _ (i : ℕ) (rule : Rule V E) (lt : i < length rules) (is : rule ≡ get_or rules i rule) where
    there : slice_get (rule_conditions rules) i ≡ Some (condition_view rule.condition)
    there = mapped-at (λ r. condition_view r.condition) rules i rule lt is

    pub value-at : slice_get (map (λ r. r.value) rules) i ≡ Some rule.value
    value-at = mapped-at (λ r. r.value) rules i rule lt is

    pub none-more : NoneBefore i → Fails (condition_view rule.condition) → NoneBefore (i + 1)
    none-more none fails =
        let view = condition_view rule.condition in
        All-more (λ one. ¬ Holds answer request one) (rule_conditions rules) i view (slice_get_within (rule_conditions rules) i view there) none
        (subst Fails (sym (get_or_from_slice_get (rule_conditions rules) i view view there)) fails)

    pub first-at : NoneBefore i → Holds answer request (condition_view rule.condition) → IsFirstToHold answer request (rule_conditions rules) i
    first-at none holds = record { holds = (condition_view rule.condition, there, holds); first = none }

    pub asks-first : NoneBefore i → AsksEngine answer request (condition_view rule.condition) → AsksEngineFirst answer request (rule_conditions rules)
    asks-first none asks = (i, condition_view rule.condition, there, asks, none)
