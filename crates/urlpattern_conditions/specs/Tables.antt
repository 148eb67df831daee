-- What a table decides: the first rule whose condition holds. `answer` is what an engine returns
-- for a text.
use Rattle.std.specs.Prelude.{◌≡◌, ℕ, All, List, None, Option, Some, map, slice_get, take}
use Rattle.std.specs.Borrow.{Bor}
use Rattle.urlpattern_conditions.specs.Conditions.{AsksEngine, ConditionView, Holds}
use Rattle.urlpattern_conditions.specs.ConditionViews.{condition_view}
use Rattle.urlpattern_conditions.specs.Requests.{RequestView}
use Rattle.urlpattern_conditions.specs.declared.table.Rule.{Rule}
use Rattle.urlpattern_meaning.specs.PartMeaning.{Captures}

-- The conditions of rules.
abbrev pub rule_conditions : {V E : Type 0} → List (Rule V E) → List (ConditionView E)
rule_conditions rules = map (λ rule. condition_view rule.condition) rules

-- The condition at the index holds of the request, and no condition before it does.
pub record IsFirstToHold {E : Type 0} (answer : E → List ℕ → Option Captures)
    (request : RequestView) (conditions : List (ConditionView E)) (index : ℕ) : Type 0 where
  pub holds : (one : ConditionView E)
      × (slice_get conditions index ≡ Some one)
      × Holds answer request one
  pub first : All (λ earlier. ¬ Holds answer request earlier) (take index conditions)

-- What the rules decide of the request: the first rule whose condition holds, and its value. None:
-- no condition holds.
abbrev pub DecidesBy : {V E : Type 0} → (answer : E → List ℕ → Option Captures) → RequestView
    → List (Rule V E) → Option (ℕ × Bor V) → Type 0
DecidesBy answer request rules (Some (index, value)) =
    IsFirstToHold answer request (rule_conditions rules) index
    × (slice_get (map (λ rule. rule.value) rules) index ≡ Some value.now)
DecidesBy answer request rules None =
    All (λ one. ¬ Holds answer request one) (rule_conditions rules)

-- A pattern of some condition calls an engine, and no condition before it holds.
abbrev pub AsksEngineFirst : {E : Type 0} → (answer : E → List ℕ → Option Captures) → RequestView
    → List (ConditionView E) → Type 0
AsksEngineFirst {E} answer request conditions =
    (index : ℕ) × (one : ConditionView E)
    × (slice_get conditions index ≡ Some one) × AsksEngine answer request one
    × All (λ earlier. ¬ Holds answer request earlier) (take index conditions)
