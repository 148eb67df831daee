use Rattle.std.proofs.Common.{◌≡◌, ◌+◌, [], drop}
use Rattle.urlpattern_compare.specs.Making.{new_starts}
use Rattle.urlpattern_compare.proofs.parts_automaton.new_starts.Given as goal

abbrev pub invariant-loop-cell : goal.invariant-loop-cell
invariant-loop-cell l = record {
  so_far : new_starts l.starts.items l.count (drop l.cell-index l.cells) ≡ new_starts [] l.states l.cells;
  counted : l.count ≡ l.states + l.cell-index;
}
