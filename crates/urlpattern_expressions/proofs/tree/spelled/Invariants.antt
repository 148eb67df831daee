use Rattle.std.proofs.Common.{◌≡◌, drop}
use Rattle.urlpattern_expressions.specs.Shapes.{shape, spelled}
use Rattle.urlpattern_expressions.proofs.tree.spelled.Given as goal

abbrev pub invariant-loop-index : goal.invariant-loop-index
invariant-loop-index l = shape l.found ≡ spelled (drop l.index l.codes)
