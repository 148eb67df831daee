use Rattle.std.proofs.Common.{◌≡◌, drop, false, replicate}
use Rattle.urlpattern_compare.specs.Exits.{with_ends}
use Rattle.urlpattern_compare.proofs.exits.moved_by.Given as goal

abbrev pub invariant-loop-edge : goal.invariant-loop-edge
invariant-loop-edge l = with_ends l.flags.items l.folded (drop l.edge-index l.exits.edges.items) ≡ with_ends (replicate l.exits.states false) l.folded l.exits.edges.items
