use Rattle.std.proofs.Common.{◌≡◌}
use Rattle.urlpattern_expressions.specs.Shapes.{copied, shape}
use Rattle.urlpattern_expressions.proofs.tree.copied.Given as goal

abbrev pub invariant-loop : goal.invariant-loop
invariant-loop l = shape l.found ≡ copied l.counter (shape l.tree) (shape l.fn.last)
