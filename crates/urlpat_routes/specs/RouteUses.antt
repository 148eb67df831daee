-- What is found about static routes by comparing what they decide.
use Rattle.std.specs.Bool.{beq}
use Rattle.std.specs.List.{list_any}
use Rattle.std.specs.Option.{option_eq}
use Rattle.std.specs.Prelude.{◌≡◌, ◌&&◌, ◌||◌, ℕ, Bool, true, false, filter, not, IsTrue, List, [], ◌∷◌, None, Option, Some, length, map, nat_eq, slice_get, take}
use Rattle.std.specs.Str.{bytes_eq}
use Rattle.url.specs.Parts.{Parts}
use Rattle.urlpattern_compare.specs.declared.candidates.TheConstants.{USUAL_LIMITS}
use Rattle.urlpattern_compare.specs.declared.common_texts.PatternAutomata.{PatternAutomata}
use Rattle.urlpattern_conditions.specs.declared.table.Rule.{Rule}
use Rattle.urlpattern_matcher.specs.declared.regexp.RegExp.{Ghosts as Engine}
use Rattle.urlpattern_route_analysis.specs.Deciding.{AreDecisions, IsReady, NoneDecidedBy, is_found, is_url}
use Rattle.urlpattern_route_analysis.specs.Formulas.{FormulaView}
use Rattle.urlpattern_route_analysis.specs.Making.{FormulatesTable, lacks_parts}
use Rattle.urlpattern_route_analysis.specs.Scopes.{AddsScope, AreRouteAttributes, outside_of}
use Rattle.urlpattern_route_analysis.specs.declared.analysis.Analysis.{Analysis}
use Rattle.urlpattern_route_analysis.specs.declared.decisions.CaseLimits.{CaseLimits}
use Rattle.urlpattern_route_analysis.specs.declared.decisions.Decisions.{Decisions}
use Rattle.urlpattern_route_analysis.specs.declared.decisions.JointDecision.{JointDecision}
use Rattle.urlpattern_routes.specs.Sources.{source_text}
use Rattle.urlpattern_routes.specs.Views.{SourceView, fetch_event, named_cache, source_view}
use Rattle.urlpattern_routes.specs.declared.rule.RouterRule.{RouterRule}
use Rattle.urlpat_routes.specs.declared.rule_use.RuleUse.{RuleUse}
use Rattle.urlpat_routes.specs.declared.rule_use.RuleUse.TheVariants as uses

-- Rules with the conditions that they are compiled to.
abbrev pub Rules : (E : Type 0) → Type 0
Rules E = List (Rule RouterRule E)

-- How far rules are compared.
abbrev pub case_limits : CaseLimits
case_limits = record { cases = 1000000; question = USUAL_LIMITS }

-- An analysis of requests of service workers.
pub record IsOfRoutes (analysis : Analysis) : Type 0 where
  pub attributes : AreRouteAttributes analysis.attributes.now
  pub limits : analysis.limits ≡ case_limits
  pub ready : IsReady analysis

-- ---- the use of each rule

-- Whether the rule is known to decide about no request that the worker gets.
abbrev pub is_unused : RuleUse → Bool
is_unused uses.Outside = true
is_unused (uses.Never takers) = true
is_unused it = false

-- Whether anything is noted of requests about which these two rules decide.
abbrev pub is_noted_one : (one other : Option ℕ) → JointDecision → Bool
is_noted_one one other it = option_eq nat_eq it.one one && option_eq nat_eq it.other other

abbrev pub is_noted : List JointDecision → (one other : Option ℕ) → Bool
is_noted found one other = list_any (is_noted_one one other) found

-- By `reach`, the rule at the index decides about no request that the worker gets.
abbrev pub IsUnused : (reach : Decisions) → (index : ℕ) → Type 0
IsUnused reach index =
    IsTrue reach.is_complete × (is_noted reach.found.items (Some index) None ≡ false)

-- Which of the rules before the one at the index decide about requests for which its condition
-- holds.
abbrev pub AreTakers : Analysis → List FormulaView → (index : ℕ) → Decisions → Type 0
AreTakers analysis formulas index takers =
    (one : FormulaView) × (slice_get formulas index ≡ Some one)
    × AreDecisions analysis (take index formulas) (one ∷ []) takers

-- Which requests the rule at the index decides about. `reach` is which rules decide about requests
-- that the worker gets (None), and about others (Some 0).
abbrev pub IsUse : Analysis → List FormulaView → (reach : Decisions) → (index : ℕ) → RuleUse
    → Type 0
IsUse analysis formulas reach index uses.Decides =
    IsTrue (is_found reach.found.items (Some index) None)
IsUse analysis formulas reach index uses.Unknown =
    (is_found reach.found.items (Some index) None ≡ false)
    × IsTrue (not reach.is_complete || is_noted reach.found.items (Some index) None)
IsUse analysis formulas reach index uses.Outside =
    IsUnused reach index × IsTrue (is_found reach.found.items (Some index) (Some 0))
IsUse analysis formulas reach index (uses.Never takers) =
    IsUnused reach index × (is_found reach.found.items (Some index) (Some 0) ≡ false)
    × AreTakers analysis formulas index takers

-- The use of each rule, in order.
abbrev pub AreUsesBy : Analysis → List FormulaView → (reach : Decisions) → List RuleUse → Type 0
AreUsesBy analysis formulas reach found =
    (length found ≡ length formulas)
    × ((index : ℕ) (it : RuleUse) → slice_get found index ≡ Some it
    → IsUse analysis formulas reach index it)

-- A rule of no use decides about no request that the worker gets. `outside` is the formula of
-- requests that the worker does not get.
abbrev pub AreUnusedRight : Analysis → List FormulaView → (outside : FormulaView) → List RuleUse
    → Type 0
AreUnusedRight analysis formulas outside found =
    (index : ℕ) (it : RuleUse) → slice_get found index ≡ Some it → IsTrue (is_unused it)
    → NoneDecidedBy analysis.patterns.items analysis.attributes.now formulas (outside ∷ [])
    (Some index) None

-- The use of each rule of a worker with this scope.
pub record AreUses {E : Type 0} (engine : Engine E) (scope : Parts) (rules : Rules E)
    (found : List RuleUse) : Type 0 where
  pub analysis : Analysis
  pub of_routes : IsOfRoutes analysis
  pub patterns : List PatternAutomata
  pub formulas : List FormulaView
  pub made : FormulatesTable engine [] patterns rules formulas
  pub scope_added : AddsScope scope patterns analysis.patterns.items
  pub reach : Decisions
  pub reached : AreDecisions analysis formulas (outside_of (length patterns) ∷ []) reach
  pub uses : AreUsesBy analysis formulas reach found
  pub unused : AreUnusedRight analysis formulas (outside_of (length patterns)) found

-- Whether it is not known if the rule decides about some request that the worker gets.
abbrev pub is_unknown : RuleUse → Bool
is_unknown uses.Unknown = true
is_unknown it = false

-- ---- differences

-- Which rules of two tables decide about the same request.
pub record AreCompared {E : Type 0} (engine : Engine E) (ones others : Rules E) (it : Decisions) :
    Type 0 where
  pub analysis : Analysis
  pub of_routes : IsOfRoutes analysis
  pub patterns : List PatternAutomata
  pub first : List FormulaView
  pub second : List FormulaView
  pub made : FormulatesTable engine [] patterns ones first
  pub others_made : FormulatesTable engine patterns analysis.patterns.items others second
  pub are : AreDecisions analysis first second it

-- The rule at an index, as it is given. None: there is no rule.
abbrev pub rule_at : {E : Type 0} → Rules E → (index : Option ℕ) → Option RouterRule
rule_at rules None = None
rule_at rules (Some index) = slice_get (map (λ rule. rule.value) rules) index

-- Where the response comes from if a rule decides. If none does, the handler of the event `fetch`
-- gets the request.
abbrev pub source_of : Option RouterRule → SourceView
source_of None = fetch_event
source_of (Some rule) = source_view rule.source

-- Whether the source is a cache with a name.
abbrev pub is_named : SourceView → Bool
is_named (named_cache name) = true
is_named source = false

-- Whether both are the same source.
abbrev pub is_same_source : (one other : SourceView) → Bool
is_same_source one other =
    beq (is_named one) (is_named other) && bytes_eq (source_text one) (source_text other)

-- Whether the response comes from elsewhere by the new rules.
abbrev pub is_change : {E : Type 0} → (old new : Rules E) → JointDecision → Bool
is_change old new it =
    not (is_same_source (source_of (rule_at old it.one)) (source_of (rule_at new it.other)))

-- The requests whose responses come from elsewhere by the new rules.
abbrev pub AreDifferences : {E : Type 0} → Engine E → (old new : Rules E) → Decisions → Type 0
AreDifferences engine old new found =
    (all : Decisions) × AreCompared engine old new all
    × (found.is_complete ≡ all.is_complete)
    × (found.found.items ≡ filter (is_change old new) all.found.items)

-- The condition of a rule has a pattern that was put together by hand.
abbrev pub lack_parts : {E : Type 0} → Rules E → Bool
lack_parts rules = list_any (λ rule. lacks_parts rule.condition) rules

-- Whether a request is known.
abbrev pub has_url : JointDecision → Bool
has_url it = is_url it.url
