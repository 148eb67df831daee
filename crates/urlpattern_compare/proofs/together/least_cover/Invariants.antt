use Rattle.std.proofs.Common.{map}
use Rattle.urlpattern_compare.proofs.TogetherLemmas.{IsLeft}
use Rattle.urlpattern_compare.proofs.together.least_cover.Given as goal

abbrev pub invariant-loop-end : goal.invariant-loop-end
invariant-loop-end l = IsLeft l.limits (map (λ it. it.now) l.patterns) l.asked l.by.items l.end

abbrev pub decreases-loop-end : goal.decreases-loop-end
decreases-loop-end l = l.end
