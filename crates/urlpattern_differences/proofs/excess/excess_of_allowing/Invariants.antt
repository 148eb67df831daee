use Rattle.urlpattern_differences.proofs.ExcessLemmas.{DoubtfulAt, LacksAt, SoFar}
use Rattle.urlpattern_differences.proofs.excess.excess_of_allowing.Given as goal

abbrev pub invariant-loop-place : goal.invariant-loop-place
invariant-loop-place l =
    SoFar l.limits l.one l.other (LacksAt l.limits l.one l.other l.first l.count) (DoubtfulAt l.limits l.one l.other l.first l.count) l.place l.doubt
