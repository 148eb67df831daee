use Rattle.urlpattern_differences.proofs.ExcessLemmas.{RuleDoubtful, RuleLacks, SoFar}
use Rattle.urlpattern_differences.proofs.excess.find_excess.Given as goal

abbrev pub invariant-loop-place : goal.invariant-loop-place
invariant-loop-place l = SoFar l.limits l.one l.other (RuleLacks l.limits l.one l.other l.count) (RuleDoubtful l.limits l.one l.other l.count) l.place l.doubt
