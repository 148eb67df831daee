-- Conditions as formulas over what they ask of a request.
use Rattle.std.specs.Prelude.{◌||◌, ℕ, suc, Bool, true, false, not, List, [], ◌∷◌, None, Option, Some, map, option_map, string_bytes, if◌then◌else◌}
use Rattle.urlpattern_route_analysis.specs.declared.formula.Atom.{Atom}
use Rattle.urlpattern_route_analysis.specs.declared.formula.Atom.TheVariants as atoms
use Rattle.urlpattern_route_analysis.specs.declared.formula.Formula.{Formula, fold-Formula}
use Rattle.urlpattern_route_analysis.specs.declared.formula.Formula.TheOpen.{Formula-F}

-- What is asked of a request: that the pattern at an index matches its URL, or that an attribute
-- has a name.
pub data AtomView : Type 0 where
  of_url : (pattern : ℕ) → AtomView
  of_name : (attribute : ℕ) → (name : List ℕ) → AtomView

mutual
  -- A formula: an atom, or that none of some formulas holds.
  pub data FormulaView : Type 0 where
    of_atom : AtomView → FormulaView
    of_none : FormulaViews → FormulaView

  -- Formulas in order.
  pub data FormulaViews : Type 0 where
    no_formulas : FormulaViews
    formula : FormulaView → FormulaViews → FormulaViews

abbrev mutual
  -- Whether the formula holds, where `is` says whether each atom does.
  pub holds : (is : AtomView → Bool) → FormulaView → Bool
  holds is (of_atom atom) = is atom
  holds is (of_none formulas) = not (some_holds is formulas)

  -- Whether at least one of the formulas holds.
  pub some_holds : (is : AtomView → Bool) → FormulaViews → Bool
  some_holds is no_formulas = false
  some_holds is (formula one rest) = holds is one || some_holds is rest

-- The index of the first formula that holds. None: none does.
abbrev pub first_to_hold : (is : AtomView → Bool) → List FormulaView → Option ℕ
first_to_hold is [] = None
first_to_hold is (one ∷ rest) =
    if holds is one then Some 0 else option_map (λ index. suc index) (first_to_hold is rest)

-- ---- views

abbrev pub atom_view : Atom → AtomView
atom_view (atoms.Url pattern) = of_url pattern
atom_view (atoms.Name attribute name) = of_name attribute (string_bytes name)

-- The formulas of a list.
abbrev pub listed : List FormulaView → FormulaViews
listed [] = no_formulas
listed (one ∷ rest) = formula one (listed rest)

-- A level of a formula, with each formula inside already seen as its view.
abbrev pub view_step : Formula-F FormulaView → FormulaView
view_step (Formula-F.Atom atom) = of_atom (atom_view atom)
view_step (Formula-F.NoneOf formulas) = of_none (listed formulas.items)

-- The view of a formula.
abbrev pub formula_view : Formula → FormulaView
formula_view = fold-Formula FormulaView view_step

-- The views of formulas, in order.
abbrev pub formula_views : List Formula → List FormulaView
formula_views formulas = map formula_view formulas

-- ---- formulas of other ones

-- The formula that holds where the other does not.
abbrev pub opposite : FormulaView → FormulaView
opposite one = of_none (formula one no_formulas)

-- The formula, or the one that holds where it does not.
abbrev pub opposite_if : (is_opposite : Bool) → FormulaView → FormulaView
opposite_if true one = opposite one
opposite_if false one = one

-- Each of the formulas, or of each the one that holds where it does not.
abbrev pub opposites_if : (is_opposite : Bool) → FormulaViews → FormulaViews
opposites_if is_opposite no_formulas = no_formulas
opposites_if is_opposite (formula one rest) =
    formula (opposite_if is_opposite one) (opposites_if is_opposite rest)
