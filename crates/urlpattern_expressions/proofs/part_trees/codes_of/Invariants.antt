use Rattle.std.proofs.Common.{◌≡◌}
use Rattle.urlpattern_expressions.proofs.part_trees.codes_of.Given as goal

abbrev pub invariant-loop-c : goal.invariant-loop-c
invariant-loop-c l = l.codes.items ≡ l.yielded
