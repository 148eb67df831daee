use Rattle.urlpattern_route_analysis.proofs.DecisionLemmas.{AreLooked}
use Rattle.urlpattern_route_analysis.specs.Cases.{literal_views}
use Rattle.urlpattern_route_analysis.specs.Formulas.{formula_views}
use Rattle.urlpattern_route_analysis.proofs.analysis.Analysis.decisions.Given as goal

abbrev pub invariant-loop : goal.invariant-loop
invariant-loop l =
    AreLooked l.self (formula_views l.ones) (formula_views l.others) l.found.items (literal_views l.literals.items) l.counter
