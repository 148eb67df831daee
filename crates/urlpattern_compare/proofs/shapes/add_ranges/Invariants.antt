use Rattle.std.proofs.Common.{◌≡◌, ◌++◌, drop}
use Rattle.urlpattern_compare.specs.Making.{edges_within}
use Rattle.urlpattern_compare.proofs.shapes.add_ranges.Given as goal

abbrev pub invariant-loop-range : goal.invariant-loop-range
invariant-loop-range l = l.edges.items ++ edges_within l.from (drop l.range-index l.ranges) l.others ≡ l.fn.edges.items ++ edges_within l.from l.ranges l.others
