use Rattle.std.proofs.Common.{◌≡◌, ◌++◌, drop}
use Rattle.std.specs.List.{filter}
use Rattle.std.specs.Prelude.{◌||◌}
use Rattle.urlpattern_compare.specs.Moves.{may_pass}
use Rattle.urlpattern_compare.proofs.moves.near_exits_of.Given as goal

abbrev pub invariant-loop-edge : goal.invariant-loop-edge
invariant-loop-edge l =
    l.edges.items ++ filter (λ edge. l.exits.ignore_case || may_pass edge.test l.least l.greatest) (drop l.edge-index l.exits.edges.items)
    ≡ filter (λ edge. l.exits.ignore_case || may_pass edge.test l.least l.greatest) l.exits.edges.items
