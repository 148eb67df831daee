use Rattle.std.proofs.Common.{List}
use Rattle.urlpattern_compare.specs.Candidates.{TextAt}
use Rattle.urlpattern_compare.proofs.OpenLemmas.{IsDividing}
use Rattle.urlpattern_compare.proofs.candidates.divide.Given as goal

abbrev pub invariant-loop-parent : goal.invariant-loop-parent
invariant-loop-parent l = (tried : List TextAt) × IsDividing l.fn.first.conditions.items l.refused l.limits l.candidates.items tried l.left l.doubt

abbrev pub decreases-loop-parent : goal.decreases-loop-parent
decreases-loop-parent l = l.left
