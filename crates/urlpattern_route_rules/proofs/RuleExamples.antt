-- Worked examples of rules that are added.
use Rattle.std.proofs.Common.{◌≡◌, ℕ, List, [], ◌∷◌, None, Some, refl}
use Rattle.serde_json.specs.Data.{array, no_items}
use Rattle.urlpattern_components.specs.Eight.{each}
use Rattle.urlpattern_components.specs.declared.eight.ComponentName.TheVariants.{Hostname, Pathname, Search}
use Rattle.urlpattern_matcher.specs.declared.regexp.RegExp.{Ghosts as Engine}
use Rattle.urlpattern_route_rules.specs.Adding.{CompilesCall, number_faults}
use Rattle.urlpattern_route_rules.specs.Patterns.{base_of, first_some, kind_fault}
use Rattle.urlpattern_route_rules.specs.declared.fault.PatternFault.TheVariants as faults
use Rattle.urlpattern_route_rules.specs.declared.fault.RouteFault.TheVariants.{TooManyRules}
use Rattle.urlpattern_routes.specs.Rules.{browser_limits}
use Rattle.urlpattern_syntax.specs.declared.parser.PartType.TheVariants.{FullWildcard, Regexp, SegmentWildcard}

-- Names are for hostname and pathname, and custom expressions for no component.
path_name : kind_fault Pathname SegmentWildcard ≡ None
path_name = refl

host_name : kind_fault Hostname SegmentWildcard ≡ None
host_name = refl

search_name : kind_fault Search SegmentWildcard ≡ Some (faults.Name Search)
search_name = refl

search_asterisk : kind_fault Search FullWildcard ≡ None
search_asterisk = refl

path_expression : kind_fault Pathname Regexp ≡ Some (faults.CustomExpression Pathname)
path_expression = refl

first_of_two : (first second : ℕ) → first_some (None ∷ Some first ∷ Some second ∷ []) ≡ Some first
first_of_two first second = refl

-- The base URL of an init, and that of one without its own.
own_base : (script own : List ℕ) → base_of script (record { texts = each (λ name. None); base_url = Some own }) ≡ Some own
own_base script own = refl

script_base : (script : List ℕ) → base_of script (record { texts = each (λ name. None); base_url = None }) ≡ Some script
script_base script = refl

-- A call may have as many rules as the limit.
as_many : number_faults 255 255 ≡ []
as_many = refl

too_many : number_faults 255 256 ≡ TooManyRules ∷ []
too_many = refl

-- A call without rules is accepted, and adds none.
no_rules : {E : Type 0} (engine : Engine E) (script : List ℕ) → CompilesCall engine script browser_limits (array no_items) [] []
no_rules engine script = ([], refl, (refl, refl))
