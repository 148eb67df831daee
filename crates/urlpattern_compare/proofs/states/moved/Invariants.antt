use Rattle.std.proofs.Common.{◌≡◌, drop, length, replicate, false}
use Rattle.urlpattern_compare.specs.Searching.{with_moves}
use Rattle.urlpattern_compare.proofs.states.moved.Given as goal

abbrev pub invariant-loop-edge : goal.invariant-loop-edge
invariant-loop-edge l = with_moves l.flags.items l.from l.c (drop l.edge-index l.edges) ≡ with_moves (replicate (length l.from) false) l.from l.c l.edges
