use Rattle.std.proofs.Common.{◌≡◌, ◌++◌, drop}
use Rattle.urlpattern_compare.specs.Making.{edges_to}
use Rattle.urlpattern_compare.proofs.parts_automaton.add_edges.Given as goal

abbrev pub invariant-loop-to : goal.invariant-loop-to
invariant-loop-to l = l.edges.items ++ edges_to l.from l.test (drop l.to-index l.others) ≡ l.fn.edges.items ++ edges_to l.from l.test l.others
