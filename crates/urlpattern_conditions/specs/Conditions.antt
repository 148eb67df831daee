-- What a condition means: the set of the requests of which it holds. `answer` is what an engine
-- returns for a text.
use Rattle.std.specs.Prelude.{◌≡◌, ◌⊎◌, ℕ, Bool, List, MatchBool, Option, Some, slice_get}
use Rattle.urlpattern_conditions.specs.Requests.{RequestView}
use Rattle.urlpattern_meaning.specs.PartMeaning.{Captures}
use Rattle.urlpattern_pattern.specs.Match.{AreMatched, CallsAnEngine}
use Rattle.urlpattern_pattern.specs.Patterns.{PatternView}

mutual
  -- A condition: a pattern for the URL, a name of an attribute, or one made of other conditions.
  pub data ConditionView (E : Type 0) : Type 0 where
    of_url : PatternView E → ConditionView E
    of_name : (attribute : ℕ) → (name : List ℕ) → ConditionView E
    of_all of_any : ConditionViews E → ConditionView E
    of_not : ConditionView E → ConditionView E

  -- Conditions in order.
  pub data ConditionViews (E : Type 0) : Type 0 where
    no_conditions : ConditionViews E
    condition : ConditionView E → ConditionViews E → ConditionViews E

abbrev mutual
  -- The condition holds of the request.
  pub Holds : {E : Type 0} → (answer : E → List ℕ → Option Captures) → RequestView
      → ConditionView E → Type 0
  Holds answer request (of_url pattern) = AreMatched answer pattern request.texts
  Holds answer request (of_name attribute name) = slice_get request.names attribute ≡ Some name
  Holds answer request (of_all conditions) = EachHolds answer request conditions
  Holds answer request (of_any conditions) = SomeHolds answer request conditions
  Holds answer request (of_not one) = ¬ Holds answer request one

  -- Each of the conditions holds of the request.
  pub EachHolds : {E : Type 0} → (answer : E → List ℕ → Option Captures) → RequestView
      → ConditionViews E → Type 0
  EachHolds answer request no_conditions = Unit {0}
  EachHolds answer request (condition one rest) =
      Holds answer request one × EachHolds answer request rest

  -- At least one of the conditions holds of the request.
  pub SomeHolds : {E : Type 0} → (answer : E → List ℕ → Option Captures) → RequestView
      → ConditionViews E → Type 0
  SomeHolds answer request no_conditions = ⊥
  SomeHolds answer request (condition one rest) =
      Holds answer request one ⊎ SomeHolds answer request rest

-- A test says whether the fact holds.
abbrev pub SayWhether : (Fact : Type 0) → (test : Bool) → Type 0
SayWhether Fact test = MatchBool test Fact (¬ Fact)

-- ---- when memory is allocated

abbrev mutual
  -- A pattern in the condition calls an engine for the URL of the request.
  pub AsksEngine : {E : Type 0} → (answer : E → List ℕ → Option Captures) → RequestView
      → ConditionView E → Type 0
  AsksEngine answer request (of_url pattern) = CallsAnEngine answer pattern request.texts
  AsksEngine answer request (of_name attribute name) = ⊥
  AsksEngine answer request (of_all conditions) = SomeAskEngine answer request conditions
  AsksEngine answer request (of_any conditions) = SomeAskEngine answer request conditions
  AsksEngine answer request (of_not one) = AsksEngine answer request one

  -- A pattern in one of the conditions calls an engine for the URL of the request.
  pub SomeAskEngine : {E : Type 0} → (answer : E → List ℕ → Option Captures) → RequestView
      → ConditionViews E → Type 0
  SomeAskEngine answer request no_conditions = ⊥
  SomeAskEngine answer request (condition one rest) =
      AsksEngine answer request one ⊎ SomeAskEngine answer request rest
