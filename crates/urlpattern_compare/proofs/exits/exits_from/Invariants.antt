use Rattle.std.proofs.Common.{◌≡◌, ◌++◌, drop}
use Rattle.std.specs.List.{filter}
use Rattle.urlpattern_compare.specs.Searching.{is_in}
use Rattle.urlpattern_compare.proofs.exits.exits_from.Given as goal

abbrev pub invariant-loop-edge : goal.invariant-loop-edge
invariant-loop-edge l =
    l.edges.items ++ filter (λ edge. is_in l.from edge.from) (drop l.edge-index l.automaton.edges.items) ≡ filter (λ edge. is_in l.from edge.from) l.automaton.edges.items
