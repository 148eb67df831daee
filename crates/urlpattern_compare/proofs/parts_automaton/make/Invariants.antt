use Rattle.std.proofs.Common.{length}
use Rattle.urlpattern_compare.proofs.MakingLemmas.{IsMadeSoFar}
use Rattle.urlpattern_compare.specs.Making.{made_view}
use Rattle.urlpattern_syntax.specs.{Options.options_view, Parts.parts_view}
use Rattle.urlpattern_compare.proofs.parts_automaton.make.Given as goal

abbrev pub invariant-loop-part : goal.invariant-loop-part
invariant-loop-part l = IsMadeSoFar (options_view l.options) (parts_view l.parts) (parts_view l.left) (made_view l.automaton)

abbrev pub decreases-loop-part : goal.decreases-loop-part
decreases-loop-part l = length l.left
