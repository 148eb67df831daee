-- The conditions of rules as they are compiled, with the faults of their patterns.
use Rattle.std.specs.Prelude.{◌≡◌, ℕ, List, [], ◌∷◌, ◌++◌, None, Option, Some, Err, Ok, Result}
use Rattle.urlpattern_conditions.specs.ConditionViews.{listed}
use Rattle.urlpattern_conditions.specs.Conditions.{ConditionView, ConditionViews, condition, no_conditions, of_all, of_any, of_name, of_not, of_url}
use Rattle.urlpattern_inputs.specs.InputValues.{InputView}
use Rattle.urlpattern_matcher.specs.declared.regexp.RegExp.{Ghosts as Engine}
use Rattle.urlpattern_pattern.specs.Patterns.{pattern_view}
use Rattle.urlpattern_pattern.specs.UrlPatterns.{UrlPattern}
use Rattle.urlpattern_route_rules.specs.Patterns.{CompilesPattern}
use Rattle.urlpattern_route_rules.specs.declared.fault.PatternFault.{PatternFault}
use Rattle.urlpattern_routes.specs.Views.{ConditionView as Given, ConditionViews as GivenList}
use Rattle.urlpattern_routes.specs.Views as given

-- The condition that an attribute has a name, if there is a name.
abbrev pub name_condition : {E : Type 0} → (attribute : ℕ) → Option (List ℕ)
    → List (ConditionView E)
name_condition attribute None = []
name_condition attribute (Some name) = of_name attribute name ∷ []

-- The condition on the URL that is made of a pattern, unless the pattern has a fault.
abbrev pub url_condition : {E : Type 0} → Result (UrlPattern E) PatternFault
    → List (ConditionView E)
url_condition (Ok pattern) = of_url (pattern_view pattern) ∷ []
url_condition (Err fault) = []

abbrev pub url_fault : {E : Type 0} → Result (UrlPattern E) PatternFault → List PatternFault
url_fault (Ok pattern) = []
url_fault (Err fault) = fault ∷ []

-- A pattern, if there is one, is compiled to the condition `made` and has the fault `found`.
abbrev pub CompilesUrl : {E : Type 0} → Engine E → (script : List ℕ) → Option InputView
    → (made : List (ConditionView E)) → (found : List PatternFault) → Type 0
CompilesUrl engine script None made found = (made ≡ []) × (found ≡ [])
CompilesUrl {E} engine script (Some given) made found =
    (result : Result (UrlPattern E) PatternFault) × CompilesPattern engine script given result
    × (made ≡ url_condition result) × (found ≡ url_fault result)

abbrev mutual
  -- A condition is compiled to `made`, and its patterns have the faults `found`. The attributes of
  -- a request are its method, its mode, its destination and the worker's status.
  pub Compiles : {E : Type 0} → Engine E → (script : List ℕ) → Given → (made : ConditionView E)
      → (found : List PatternFault) → Type 0
  Compiles {E} engine script (given.of_request request) made found =
      (urls : List (ConditionView E))
      × CompilesUrl engine script request.url_pattern urls found
      × (made ≡ of_all (listed (urls
      ++ name_condition 0 request.method
      ++ name_condition 1 request.mode
      ++ name_condition 2 request.destination
      ++ name_condition 3 request.running_status)))
  Compiles {E} engine script (given.of_or conditions) made found =
      (each : ConditionViews E) × (made ≡ of_any each)
      × CompileEach engine script conditions each found
  Compiles {E} engine script (given.of_not one) made found =
      (inner : ConditionView E) × (made ≡ of_not inner) × Compiles engine script one inner found

  -- Conditions are compiled to `made`, and their patterns have the faults `found`.
  pub CompileEach : {E : Type 0} → Engine E → (script : List ℕ) → GivenList
      → (made : ConditionViews E) → (found : List PatternFault) → Type 0
  CompileEach engine script given.no_conditions made found =
      (made ≡ no_conditions) × (found ≡ [])
  CompileEach {E} engine script (given.condition one rest) made found =
      (first : ConditionView E) × (others : ConditionViews E)
      × (own : List PatternFault) × (more : List PatternFault)
      × (made ≡ condition first others) × (found ≡ own ++ more)
      × Compiles engine script one first own × CompileEach engine script rest others more
