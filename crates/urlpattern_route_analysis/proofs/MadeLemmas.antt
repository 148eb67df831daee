-- Formulas of one condition.
use Rattle.std.proofs.Common.{◌≡◌, ◌∙◌, ℕ, Box, Global, List, String, Vec, ap, refl, rules, string_bytes, subst, sym, false, true}
use Rattle.urlpattern_compare.specs.declared.common_texts.PatternAutomata.{PatternAutomata}
use Rattle.urlpattern_conditions.specs.ConditionViews.{condition_view, conditions_view}
use Rattle.urlpattern_conditions.specs.Conditions as conditions
use Rattle.urlpattern_conditions.specs.Conditions.{ConditionView}
use Rattle.urlpattern_conditions.specs.declared.condition.Condition.{All, Any, Condition, Name, Not, Url, the_lemmas}
use Rattle.urlpattern_matcher.specs.declared.regexp.RegExp.{Ghosts as Engine}
use Rattle.urlpattern_pattern.specs.Patterns.{pattern_view}
use Rattle.urlpattern_pattern.specs.UrlPatterns.{UrlPattern}
use Rattle.urlpattern_route_analysis.proofs.FormulaLemmas.{atom-formula, no_more, none-formula}
use Rattle.urlpattern_route_analysis.specs.Formulas.{FormulaView, FormulaViews, formula, formula_view, formula_views, no_formulas, of_atom, of_name, of_none, opposite, opposites_if}
use Rattle.urlpattern_route_analysis.specs.Making.{AddsPattern, Extends, Formulates, FormulatesEach, IsFormulaOf, IsPatternAt}
use Rattle.urlpattern_route_analysis.specs.declared.formula.Atom.TheVariants as atoms
use Rattle.urlpattern_route_analysis.specs.declared.formula.Formula.{Atom as OfAtom, Formula, NoneOf}

-- ---- views

view-Url : {E : Type 0} (pattern : Box (UrlPattern E) Global) → condition_view (Url pattern) ≡ conditions.of_url (pattern_view pattern.value)
view-Url pattern = search (rules, the_lemmas)

view-Name : {E : Type 0} (attribute : ℕ) (name : String Global) → condition_view {E = E} (Name attribute name) ≡ conditions.of_name attribute (string_bytes name)
view-Name attribute name = search (rules, the_lemmas)

view-All : {E : Type 0} (given : Vec (Condition E) Global) → condition_view (All given) ≡ conditions.of_all (conditions_view given.items)
view-All given = search (rules, the_lemmas)

view-Any : {E : Type 0} (given : Vec (Condition E) Global) → condition_view (Any given) ≡ conditions.of_any (conditions_view given.items)
view-Any given = search (rules, the_lemmas)

view-Not : {E : Type 0} (one : Box (Condition E) Global) → condition_view (Not one) ≡ conditions.of_not (condition_view one.value)
view-Not one = search (rules, the_lemmas)

opposites_none : (each : FormulaViews) → opposites_if false each ≡ each
opposites_none no_formulas = refl
opposites_none (formula one rest) = ap (λ (l : FormulaViews). formula one l) (opposites_none rest)

-- ---- conditions

module _ {E : Type 0} (engine : Engine E) (old new : List PatternAutomata) (own : Condition E) where
  -- What is shown of the view of a condition is shown of the condition.
  by_view : (given : ConditionView E) (it : FormulaView) → condition_view own ≡ given → Extends engine old new → IsFormulaOf engine new given it → Formulates engine old new (condition_view own) it
  by_view given it is before made = (before, subst (λ (g : ConditionView E). IsFormulaOf engine new g it) (sym is) made)

  pub url_made : (boxed : Box (UrlPattern E) Global) (pattern : UrlPattern E) (index : ℕ) → own ≡ Url boxed → pattern ≡ boxed.value → AddsPattern engine old new (pattern_view pattern) index
      → Formulates engine old new (condition_view own) (formula_view (OfAtom (atoms.Url index)))
  url_made boxed pattern index is same (before, at) =
      by_view (conditions.of_url (pattern_view boxed.value)) (formula_view (OfAtom (atoms.Url index))) (ap (λ (c : Condition E). condition_view c) is ∙ view-Url boxed) before
      (index, atom-formula (atoms.Url index), subst (λ (p : UrlPattern E). IsPatternAt engine new (pattern_view p) index) same at)

  pub name_made : (attribute : ℕ) (name copy : String Global) → own ≡ Name attribute name → string_bytes copy ≡ string_bytes name → new ≡ old
      → Formulates engine old new (condition_view own) (formula_view (OfAtom (atoms.Name attribute copy)))
  name_made attribute name copy is same unchanged =
      by_view (conditions.of_name attribute (string_bytes name)) (formula_view (OfAtom (atoms.Name attribute copy))) (ap (λ (c : Condition E). condition_view c) is ∙ view-Name attribute name)
      (subst (λ (l : List PatternAutomata). Extends engine old l) (sym unchanged) (no_more engine old))
      (atom-formula (atoms.Name attribute copy) ∙ ap (λ (n : List ℕ). of_atom (of_name attribute n)) same)

  pub all_made : (given : Vec (Condition E) Global) (made : Vec Formula Global) → own ≡ All given → FormulatesEach engine old new (conditions_view given.items) true (formula_views made.items)
      → Formulates engine old new (condition_view own) (formula_view (NoneOf made))
  all_made given made is (before, (each, same, are)) =
      by_view (conditions.of_all (conditions_view given.items)) (formula_view (NoneOf made)) (ap (λ (c : Condition E). condition_view c) is ∙ view-All given) before
      (each, none-formula made ∙ ap (λ (l : FormulaViews). of_none l) same, are)

  pub any_made : (given : Vec (Condition E) Global) (made : Vec Formula Global) (it : FormulaView) → own ≡ Any given → FormulatesEach engine old new (conditions_view given.items) false (formula_views made.items)
      → it ≡ opposite (formula_view (NoneOf made)) → Formulates engine old new (condition_view own) it
  any_made given made it is (before, (each, same, are)) opposed =
      by_view (conditions.of_any (conditions_view given.items)) it (ap (λ (c : Condition E). condition_view c) is ∙ view-Any given) before
      (each, opposed ∙ ap (λ (f : FormulaView). opposite f) (none-formula made ∙ ap (λ (l : FormulaViews). of_none l) (same ∙ opposites_none each)), are)

  pub not_made : (boxed : Box (Condition E) Global) (one : Condition E) (made it : FormulaView) → own ≡ Not boxed → one ≡ boxed.value → Formulates engine old new (condition_view one) made → it ≡ opposite made
      → Formulates engine old new (condition_view own) it
  not_made boxed one made it is same (before, its) opposed =
      by_view (conditions.of_not (condition_view boxed.value)) it (ap (λ (c : Condition E). condition_view c) is ∙ view-Not boxed) before
      (made, opposed, subst (λ (c : Condition E). IsFormulaOf engine new (condition_view c) made) same its)
