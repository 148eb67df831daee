use Rattle.std.proofs.Common.{◌≡◌, true, Ok, drop}
use Rattle.urlpattern_route_analysis.proofs.CaseSteps.{IsOpen}
use Rattle.urlpattern_route_analysis.specs.Cases.{asked_view, known_none, literal_views}
use Rattle.urlpattern_route_analysis.specs.Formulas.{formula_views, listed}
use Rattle.urlpattern_route_analysis.proofs.case.+known.Given as goal

-- What is known of all formulas is what is known of those so far and of the rest.
abbrev pub invariant-known_none-loop-formula : goal.invariant-known_none-loop-formula
invariant-known_none-loop-formula l =
    (known_none (literal_views l.literals) (Ok true) (listed (formula_views l.formula-items))
    ≡ known_none (literal_views l.literals) (asked_view l.so_far) (listed (drop l.formula-index (formula_views l.formula-items))))
    × IsOpen (literal_views l.literals) (asked_view l.so_far)
