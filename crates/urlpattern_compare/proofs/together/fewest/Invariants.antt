use Rattle.std.proofs.Common.{◌-◌, ◌<◌, ◌≤◌, ◌++◌, map, take}
use Rattle.urlpattern_compare.specs.CoveringTogether.{AreCovering, MayNotCover, at_each}
use Rattle.urlpattern_compare.proofs.together.fewest.Given as goal

abbrev pub invariant-loop-low : goal.invariant-loop-low
invariant-loop-low l = record {
  order : l.low < l.high;
  within : l.high ≤ l.end;
  cover : AreCovering (take l.high (map (λ it. it.now) l.patterns) ++ at_each (map (λ it. it.now) l.patterns) l.by) l.asked;
  needed : MayNotCover l.limits (take l.low (map (λ it. it.now) l.patterns) ++ at_each (map (λ it. it.now) l.patterns) l.by) l.asked;
}

abbrev pub decreases-loop-low : goal.decreases-loop-low
decreases-loop-low l = l.high - l.low
