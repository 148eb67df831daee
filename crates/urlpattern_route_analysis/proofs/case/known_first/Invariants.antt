use Rattle.std.proofs.Common.{◌≡◌, false, Ok, take}
use Rattle.std.specs.Prelude.{All}
use Rattle.urlpattern_route_analysis.specs.Cases.{known, literal_views}
use Rattle.urlpattern_route_analysis.specs.Formulas.{formula_views}
use Rattle.urlpattern_route_analysis.proofs.case.known_first.Given as goal

-- None of the formulas so far holds.
abbrev pub invariant-loop-index : goal.invariant-loop-index
invariant-loop-index l = All (λ one. known (literal_views l.literals) one ≡ Ok false) (take l.index (formula_views l.formulas))
