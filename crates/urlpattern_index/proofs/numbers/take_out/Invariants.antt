use Rattle.std.proofs.Common.{◌≡◌, ◌++◌, drop, map, take}
use Rattle.urlpattern_index.specs.Listed.{lowered}
use Rattle.urlpattern_index.proofs.numbers.take_out.Given as goal

abbrev pub invariant-loop-index : goal.invariant-loop-index
invariant-loop-index l = l.list.items ≡ map (lowered l.number) (take l.index l.initial.list.items) ++ drop l.index l.initial.list.items
