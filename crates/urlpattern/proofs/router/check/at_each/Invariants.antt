use Rattle.std.proofs.Common.{◌≡◌, take}
use Rattle.urlpattern_compare.specs.CoveringTogether.{at_each}
use Rattle.urlpattern.proofs.router.check.at_each.Given as goal

abbrev pub invariant-loop-index : goal.invariant-loop-index
invariant-loop-index g l = l.found.items ≡ at_each l.values (take l.index-index l.indices)
