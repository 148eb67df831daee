use Rattle.std.proofs.Common.{◌≡◌}
use Rattle.urlpattern_expressions.specs.Shapes.{shape, up_to}
use Rattle.urlpattern_expressions.proofs.tree.up_to.Given as goal

abbrev pub invariant-loop : goal.invariant-loop
invariant-loop l = shape l.found ≡ up_to l.greedy l.counter (shape l.tree)
