-- Requests of service workers: their attributes, and those that no worker with a scope gets.
use Rattle.std.specs.List.{AllZip}
use Rattle.std.specs.Prelude.{◌≡◌, ◌++◌, ℕ, Bool, true, false, List, [], ◌∷◌, codes, is_some, map, not, if◌then◌else◌}
use Rattle.url.specs.Parts.{Parts}
use Rattle.urlpattern_compare.specs.CommonTexts.{AreAutomata}
use Rattle.urlpattern_compare.specs.Comparing.{anything_part}
use Rattle.urlpattern_compare.specs.declared.common_texts.PatternAutomata.{PatternAutomata}
use Rattle.urlpattern_components.specs.Eight.{at}
use Rattle.urlpattern_components.specs.declared.eight.ComponentName.{ComponentName}
use Rattle.urlpattern_components.specs.declared.eight.ComponentName.TheVariants.{Hash, Pathname, Search}
use Rattle.urlpattern_init.specs.Inheritance.{url_text}
use Rattle.urlpattern_route_analysis.specs.Formulas.{FormulaView, formula, no_formulas, of_atom, of_name, of_none, of_url}
use Rattle.urlpattern_route_analysis.specs.declared.names.Attribute.{Attribute}
use Rattle.urlpattern_routes.specs.Names.{names_of}
use Rattle.urlpattern_routes.specs.declared.attribute.RouterAttribute.{RouterAttribute}
use Rattle.urlpattern_routes.specs.declared.attribute.RouterAttribute.TheVariants.{Destination, Method, Mode, RunningStatus}
use Rattle.urlpattern_syntax.specs.Parts.{PartView}
use Rattle.urlpattern_syntax.specs.declared.parser.{PartModifier.PartModifier, PartType.PartType}
use Rattle.urlpattern_syntax.specs.declared.parts.ComponentParts.{ComponentParts}
use Rattle.urlpattern_urls.specs.Unlike.{IsMadeOf, part_of}

-- ---- attributes

-- Whether the attribute is the method.
abbrev pub is_method : RouterAttribute → Bool
is_method Method = true
is_method attribute = false

-- The attribute of a service worker's request: some methods or any other, or one of the names that
-- requests have which rules get.
pub record IsAttributeOf (attribute : RouterAttribute) (it : Attribute) : Type 0 where
  pub names : map (λ name. name.now) it.names.now ≡ names_of attribute
  pub open_to : it.is_open ≡ is_method attribute

-- The attributes are those of a service worker's requests, in the order that conditions have.
abbrev pub AreRouteAttributes : List Attribute → Type 0
AreRouteAttributes attributes =
    AllZip IsAttributeOf (Method ∷ Mode ∷ Destination ∷ RunningStatus ∷ []) attributes

-- ---- scopes

-- Whether URLs that begin with a scope may have more in the component than the scope.
abbrev pub is_open : ComponentName → (has_query : Bool) → Bool
is_open Hash has_query = true
is_open Search has_query = true
is_open Pathname has_query = not has_query
is_open name has_query = false

-- The text of a scope in a component. Its fragment does not count.
abbrev pub scope_text : ComponentName → (text : List ℕ) → List ℕ
scope_text Hash text = []
scope_text name text = text

-- The parts of texts that are the scope's in a component, with more after them where URLs that
-- begin with the scope may have more.
abbrev pub prefix_parts : ComponentName → (text : List ℕ) → (has_query : Bool) → List PartView
prefix_parts name text has_query =
    part_of PartType.FixedText (scope_text name text) PartModifier.None
    ∷ (if is_open name has_query then anything_part ∷ [] else [])

abbrev pub IsPrefixIn : (scope : Parts) → ComponentName → ComponentParts → Type 0
IsPrefixIn scope name component =
    IsMadeOf (prefix_parts name (url_text name scope) (is_some scope.query)) component

-- `new` has a pattern after those of `old`, of URLs that begin with the scope.
abbrev pub AddsScope : (scope : Parts) → (old new : List PatternAutomata) → Type 0
AddsScope scope old new =
    (it : PatternAutomata) × (new ≡ old ++ it ∷ []) × AreAutomata it
    × ((name : ComponentName) → IsPrefixIn scope name (at it.parts.components name))

-- A worker gets a navigation, or the script of a worker, only if its URL begins with the scope.
-- The formula of those that begin otherwise, by the index of the pattern of URLs that begin with
-- the scope.
abbrev pub outside_of : (scope : ℕ) → FormulaView
outside_of scope =
    of_none
    (formula (of_atom (of_url scope))
    (formula
    (of_none
    (formula (of_atom (of_name 1 (codes "navigate")))
    (formula (of_atom (of_name 2 (codes "worker")))
    (formula (of_atom (of_name 2 (codes "sharedworker"))) no_formulas))))
    no_formulas))
