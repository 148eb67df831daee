use Rattle.std.proofs.Common.{◌≡◌, take}
use Rattle.urlpattern_expressions.proofs.expression_trees.codes_of.Given as goal

abbrev pub invariant-loop-byte : goal.invariant-loop-byte
invariant-loop-byte l = l.codes.items ≡ take l.byte-index l.bytes
