use Rattle.std.proofs.Common.{◌≡◌, ◌++◌, take}
use Rattle.urlpattern_compare.specs.CoveringTogether.{at_each}
use Rattle.urlpattern_compare.proofs.together.first_and_at.Given as goal

abbrev pub invariant-loop-first : goal.invariant-loop-first
invariant-loop-first l = l.some.items ≡ take l.first l.patterns

abbrev pub invariant-loop-index : goal.invariant-loop-index
invariant-loop-index l = l.some.items ≡ take l.count l.patterns ++ at_each l.patterns (take l.index-index l.by)
