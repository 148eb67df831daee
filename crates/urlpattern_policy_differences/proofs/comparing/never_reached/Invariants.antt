use Rattle.urlpattern_policy_differences.proofs.ComparingLemmas.{AreNeverBelow}
use Rattle.urlpattern_policy_differences.proofs.comparing.never_reached.Given as goal

abbrev pub invariant-loop-index : goal.invariant-loop-index
invariant-loop-index l = AreNeverBelow l.found l.dead.items l.index
