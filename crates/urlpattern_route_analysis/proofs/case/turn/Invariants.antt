use Rattle.std.proofs.Common.{◌≡◌, ◌++◌, false, List, length}
use Rattle.std.specs.Prelude.{All}
use Rattle.urlpattern_route_analysis.specs.Cases.{LiteralView, literal_views}
use Rattle.urlpattern_route_analysis.proofs.case.turn.Given as goal

-- The literals that were left out do not hold.
abbrev pub invariant-loop-atom : goal.invariant-loop-atom
invariant-loop-atom l =
    (back : List LiteralView) × (literal_views l.initial.literals.items ≡ literal_views l.literals.items ++ back) × All (λ it. it.holds ≡ false) back

abbrev pub decreases-loop-atom : goal.decreases-loop-atom
decreases-loop-atom l = length l.literals.items
