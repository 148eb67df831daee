-- Worked examples of formulas and cases.
use Rattle.std.proofs.Common.{◌≡◌, ℕ, Bool, true, false, List, [], ◌∷◌, None, Some, Ok, Err, codes, refl}
use Rattle.urlpattern_route_analysis.specs.Cases.{LiteralView, known, known_both, told}
use Rattle.urlpattern_route_analysis.specs.Formulas.{AtomView, FormulaView, formula, holds, no_formulas, of_atom, of_name, of_none, of_url, opposite}

-- The pattern at the index 0, and a name of the attribute 0, the method.
abbrev page : FormulaView
page = of_atom (of_url 0)

abbrev method : List ℕ → AtomView
method name = of_name 0 name

-- A rule on the pattern and the method `GET` together.
abbrev get_page : FormulaView
get_page = of_none (formula (opposite page) (formula (opposite (of_atom (method (codes "GET")))) no_formulas))

abbrev literal : AtomView → Bool → LiteralView
literal atom is = record { atom = atom; holds = is }

-- No formulas: none holds, so that `of_none` does.
none_of_none : (is : AtomView → Bool) → holds is (of_none no_formulas) ≡ true
none_of_none is = refl

-- An attribute with one name has no other one.
another_name : told (literal (method (codes "GET")) true) (method (codes "PUT")) ≡ Some false
another_name = refl

-- A name that an attribute does not have says nothing of another one.
nothing_of_another : told (literal (method (codes "GET")) false) (method (codes "PUT")) ≡ None
nothing_of_another = refl

-- A pattern says nothing of names.
nothing_of_names : told (literal (of_url 0) true) (method (codes "GET")) ≡ None
nothing_of_names = refl

-- The name is asked for before the pattern, and a request of another method is not met.
name_first : known [] get_page ≡ Err (method (codes "GET"))
name_first = refl

then_pattern : known (literal (method (codes "GET")) true ∷ []) get_page ≡ Err (of_url 0)
then_pattern = refl

other_method : known (literal (method (codes "PUT")) true ∷ []) get_page ≡ Ok false
other_method = refl

-- Of two tables, each with this rule, the second one's decision is known with that of the first.
both_known : known_both (literal (method (codes "GET")) true ∷ literal (of_url 0) true ∷ []) (get_page ∷ []) (get_page ∷ []) ≡ Ok (Some 0, Some 0)
both_known = refl
