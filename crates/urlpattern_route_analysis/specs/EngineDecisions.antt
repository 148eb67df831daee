-- What follows for the decisions of conditions of what an analysis finds.
use Rattle.std.specs.List.{AllZip}
use Rattle.std.specs.Prelude.{◌≡◌, ℕ, All, Any, IsTrue, List, None, Option, Some, map, string_bytes}
use Rattle.url.specs.Parts.{IsValid, Parts}
use Rattle.urlpattern_compare.specs.Comparing.{IsCaseKeptOrGenerated}
use Rattle.urlpattern_compare.specs.declared.common_texts.PatternAutomata.{PatternAutomata}
use Rattle.urlpattern_components.specs.Eight.{at}
use Rattle.urlpattern_components.specs.declared.eight.ComponentName.{ComponentName}
use Rattle.urlpattern_conditions.specs.Conditions.{ConditionView, Holds}
use Rattle.urlpattern_conditions.specs.Requests.{RequestView}
use Rattle.urlpattern_conditions.specs.Tables.{IsFirstToHold}
use Rattle.urlpattern_init.specs.Inheritance.{texts_of_url}
use Rattle.urlpattern_matcher.specs.declared.regexp.RegExp.{Ghosts as Engine}
use Rattle.urlpattern_meaning.specs.PartMeaning.{Captures}
use Rattle.urlpattern_route_analysis.specs.Deciding.{AreDecisions}
use Rattle.urlpattern_route_analysis.specs.Formulas.{FormulaView}
use Rattle.urlpattern_route_analysis.specs.Making.{IsFormulaOf, IsOfEngine}
use Rattle.urlpattern_route_analysis.specs.Naming.{AreNamesOf}
use Rattle.urlpattern_route_analysis.specs.declared.analysis.Analysis.{Analysis}
use Rattle.urlpattern_route_analysis.specs.declared.decisions.Decisions.{Decisions}
use Rattle.urlpattern_urls.specs.declared.common_url.CommonUrl.TheVariants as urls

-- Each component keeps case or has no custom expression.
abbrev pub KeepsCase : PatternAutomata → Type 0
KeepsCase it = (name : ComponentName) → IsCaseKeptOrGenerated (at it.parts.components name)

-- The formulas are those of the conditions. The patterns are ones that `engine` made, each of which
-- keeps case or has no custom expressions.
pub record AreOfConditions {E : Type 0} (engine : Engine E) (analysis : Analysis)
    (conditions : List (ConditionView E)) (formulas : List FormulaView) : Type 0 where
  pub made : All (IsOfEngine engine) analysis.patterns.items
  pub case : All KeepsCase analysis.patterns.items
  pub are : AllZip (IsFormulaOf engine analysis.patterns.items) conditions formulas

-- The condition at the index is the first that holds of the request. None: none does.
abbrev pub IsDecidedBy : {E : Type 0} → (answer : E → List ℕ → Option Captures) → RequestView
    → List (ConditionView E) → Option ℕ → Type 0
IsDecidedBy answer request conditions (Some index) =
    IsFirstToHold answer request conditions index
IsDecidedBy answer request conditions None = All (λ one. ¬ Holds answer request one) conditions

-- The request with this URL and these names.
abbrev pub request_of : Parts → (names : List (List ℕ)) → RequestView
request_of url names = record { texts = texts_of_url url; names = names }

-- Two rules that are missing in what an analysis finds, if that is complete, decide about no
-- request with a URL.
abbrev pub MissingDecideNone : {E : Type 0} → Engine E → Type 0
MissingDecideNone {E} engine =
    (analysis : Analysis) (ones others : List (ConditionView E)) (first second : List FormulaView)
    (it : Decisions)
    → AreOfConditions engine analysis ones first → AreOfConditions engine analysis others second
    → AreDecisions analysis first second it → IsTrue it.is_complete → (one other : Option ℕ)
    → ¬ Any (λ each. (each.one ≡ one) × (each.other ≡ other)) it.found.items
    → (url : Parts) → IsValid url → (names : List (List ℕ))
    → AreNamesOf analysis.attributes.now names
    → ¬ (IsDecidedBy engine.answer (request_of url names) ones one
    × IsDecidedBy engine.answer (request_of url names) others other)

-- Two rules that are found with a URL decide about the request with it and the names.
abbrev pub FoundDecide : {E : Type 0} → Engine E → Type 0
FoundDecide {E} engine =
    (analysis : Analysis) (ones others : List (ConditionView E)) (first second : List FormulaView)
    (it : Decisions)
    → AreOfConditions engine analysis ones first → AreOfConditions engine analysis others second
    → AreDecisions analysis first second it
    → All (λ each. (url : Parts) → each.url ≡ urls.Url url
    → IsDecidedBy engine.answer (request_of url (map string_bytes each.names.items)) ones each.one
    × IsDecidedBy engine.answer (request_of url (map string_bytes each.names.items)) others
    each.other) it.found.items
