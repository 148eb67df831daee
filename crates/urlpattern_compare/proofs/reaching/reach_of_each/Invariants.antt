use Rattle.std.proofs.Common.{map}
use Rattle.urlpattern_compare.proofs.ReachLemmas.{AreReachedBelow}
use Rattle.urlpattern_compare.proofs.reaching.reach_of_each.Given as goal

abbrev pub invariant-loop-index : goal.invariant-loop-index
invariant-loop-index l = AreReachedBelow l.limits (map (λ it. it.now) l.patterns) l.found.items l.index
