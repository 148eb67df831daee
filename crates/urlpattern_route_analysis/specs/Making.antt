-- Conditions brought to formulas.
use Rattle.std.specs.List.{AllZip, list_any}
use Rattle.std.specs.Prelude.{◌≡◌, ◌++◌, ℕ, All, Bool, true, false, IsTrue, List, [], Some, is_none, slice_get}
use Rattle.urlpattern_compare.specs.CommonTexts.{AreAutomata}
use Rattle.urlpattern_compare.specs.declared.common_texts.PatternAutomata.{PatternAutomata}
use Rattle.urlpattern_conditions.specs.Conditions as conditions
use Rattle.urlpattern_conditions.specs.Conditions.{ConditionView, ConditionViews}
use Rattle.urlpattern_conditions.specs.Tables.{rule_conditions}
use Rattle.urlpattern_conditions.specs.declared.condition.Condition.{Condition, fold-Condition}
use Rattle.urlpattern_conditions.specs.declared.condition.Condition.TheOpen.{Condition-F}
use Rattle.urlpattern_conditions.specs.declared.table.Rule.{Rule}
use Rattle.urlpattern_matcher.specs.declared.regexp.RegExp.{Ghosts as Engine}
use Rattle.urlpattern_pattern.specs.Patterns.{PatternView}
use Rattle.urlpattern_pattern.specs.UrlPatterns.{AreMadeOfParts}
use Rattle.urlpattern_pattern.specs.declared.pattern.compare.CompareError.{CompareError}
use Rattle.urlpattern_pattern.specs.declared.pattern.compare.CompareError.TheVariants as errors
use Rattle.urlpattern_route_analysis.specs.Formulas.{FormulaView, FormulaViews, formula, listed, no_formulas, of_atom, of_name, of_none, of_url, opposite, opposites_if}
use Rattle.urlpattern_route_analysis.specs.declared.analysis.Analysis.{Analysis}
use Rattle.urlpattern_route_analysis.specs.declared.decisions.CaseLimits.{CaseLimits}
use Rattle.urlpattern_route_analysis.specs.declared.names.Attribute.{Attribute}
use Rattle.urlpattern_urls.specs.Unlike.{AreUnlike}

-- The automata at the index are of parts of which `engine` made the pattern.
abbrev pub IsPatternAt : {E : Type 0} → Engine E → List PatternAutomata → PatternView E
    → (index : ℕ) → Type 0
IsPatternAt engine patterns pattern index =
    (it : PatternAutomata) × (slice_get patterns index ≡ Some it)
    × AreMadeOfParts engine it.parts pattern

abbrev mutual
  -- The formula is the condition, with the index of its automata in place of each pattern.
  pub IsFormulaOf : {E : Type 0} → Engine E → List PatternAutomata → ConditionView E → FormulaView
      → Type 0
  IsFormulaOf engine patterns (conditions.of_url pattern) it =
      (index : ℕ) × (it ≡ of_atom (of_url index)) × IsPatternAt engine patterns pattern index
  IsFormulaOf engine patterns (conditions.of_name attribute name) it =
      it ≡ of_atom (of_name attribute name)
  IsFormulaOf engine patterns (conditions.of_all given) it =
      (each : FormulaViews) × (it ≡ of_none (opposites_if true each))
      × AreFormulasOf engine patterns given each
  IsFormulaOf engine patterns (conditions.of_any given) it =
      (each : FormulaViews) × (it ≡ opposite (of_none each))
      × AreFormulasOf engine patterns given each
  IsFormulaOf engine patterns (conditions.of_not one) it =
      (inner : FormulaView) × (it ≡ opposite inner) × IsFormulaOf engine patterns one inner

  -- The formulas are the conditions, in order.
  pub AreFormulasOf : {E : Type 0} → Engine E → List PatternAutomata → ConditionViews E
      → FormulaViews → Type 0
  AreFormulasOf engine patterns conditions.no_conditions each = each ≡ no_formulas
  AreFormulasOf engine patterns (conditions.condition one rest) each =
      (first : FormulaView) × (others : FormulaViews) × (each ≡ formula first others)
      × IsFormulaOf engine patterns one first × AreFormulasOf engine patterns rest others

-- The automata are of parts of which `engine` made a pattern.
abbrev pub IsOfEngine : {E : Type 0} → Engine E → PatternAutomata → Type 0
IsOfEngine {E} engine it = (pattern : PatternView E) × AreMadeOfParts engine it.parts pattern

-- `new` is `old` with automata of more patterns that `engine` made.
abbrev pub Extends : {E : Type 0} → Engine E → (old new : List PatternAutomata) → Type 0
Extends engine old new =
    (more : List PatternAutomata) × (new ≡ old ++ more) × All (IsOfEngine engine) more

-- ---- patterns without parts

-- Whether a pattern of a condition was put together by hand, without parts: a level, with each
-- condition inside already seen as whether it has one.
abbrev pub lacks_step : {E : Type 0} → Condition-F E Bool → Bool
lacks_step (Condition-F.Url pattern) = is_none pattern.value.parts
lacks_step (Condition-F.Name attribute name) = false
lacks_step (Condition-F.All given) = list_any (λ it. it) given.items
lacks_step (Condition-F.Any given) = list_any (λ it. it) given.items
lacks_step (Condition-F.Not one) = one.value

-- Whether a pattern of the condition was put together by hand, without parts.
abbrev pub lacks_parts : {E : Type 0} → Condition E → Bool
lacks_parts {E} = fold-Condition E Bool lacks_step

-- The error says that parts are missing only if a pattern lacks them.
abbrev pub IsLacking : (lacks : Bool) → CompareError → Type 0
IsLacking lacks error = error ≡ errors.NoParts → IsTrue lacks

-- ---- what calls return

-- An analysis without patterns.
pub record IsEmpty (attributes : List Attribute) (limits : CaseLimits) (it : Analysis) : Type 0
  where
    pub attributes_are : it.attributes.now ≡ attributes
    pub limits_are : it.limits ≡ limits
    pub facts : AreUnlike it.facts.patterns.items
    pub patterns : it.patterns.items ≡ []

-- `new` has the attributes, the limits and the facts of `old`, and further patterns after its own,
-- each with its automata.
pub record Keeps (old new : Analysis) : Type 0 where
  pub attributes : new.attributes.now ≡ old.attributes.now
  pub limits : new.limits ≡ old.limits
  pub facts : new.facts ≡ old.facts
  pub patterns : (more : List PatternAutomata)
      × (new.patterns.items ≡ old.patterns.items ++ more) × All AreAutomata more

abbrev pub Formulates : {E : Type 0} → Engine E → (old new : List PatternAutomata)
    → ConditionView E → FormulaView → Type 0
Formulates engine old new given it = Extends engine old new × IsFormulaOf engine new given it

abbrev pub FormulatesEach : {E : Type 0} → Engine E → (old new : List PatternAutomata)
    → ConditionViews E → (is_opposite : Bool) → List FormulaView → Type 0
FormulatesEach engine old new given is_opposite formulas =
    Extends engine old new
    × ((each : FormulaViews) × (listed formulas ≡ opposites_if is_opposite each)
    × AreFormulasOf engine new given each)

-- The formulas are those of the conditions of the rules, in order.
abbrev pub FormulatesTable : {V E : Type 0} → Engine E → (old new : List PatternAutomata)
    → List (Rule V E) → List FormulaView → Type 0
FormulatesTable engine old new rules formulas =
    Extends engine old new × AllZip (IsFormulaOf engine new) (rule_conditions rules) formulas

abbrev pub AddsPattern : {E : Type 0} → Engine E → (old new : List PatternAutomata)
    → PatternView E → (index : ℕ) → Type 0
AddsPattern engine old new pattern index =
    Extends engine old new × IsPatternAt engine new pattern index
