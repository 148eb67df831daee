use Rattle.std.proofs.Common.{◌≡◌, None, take}
use Rattle.std.specs.Prelude.{All}
use Rattle.urlpattern_route_analysis.specs.Cases.{literal_views, told}
use Rattle.urlpattern_route_analysis.specs.Formulas.{atom_view}
use Rattle.urlpattern_route_analysis.proofs.case.known_atom.Given as goal

-- None of the literals so far tells.
abbrev pub invariant-loop-literal : goal.invariant-loop-literal
invariant-loop-literal l = All (λ it. told it (atom_view l.atom) ≡ None) (take l.literal-index (literal_views l.literals))
