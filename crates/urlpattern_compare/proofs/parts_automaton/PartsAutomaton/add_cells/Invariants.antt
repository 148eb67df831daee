use Rattle.std.proofs.Common.{◌≡◌, ◌+◌, drop}
use Rattle.urlpattern_compare.specs.Making.{made_view, with_cells}
use Rattle.urlpattern_compare.proofs.parts_automaton.PartsAutomaton.add_cells.Given as goal

abbrev pub invariant-loop-cell : goal.invariant-loop-cell
invariant-loop-cell l = record {
  so_far : with_cells (made_view l.self) (drop l.cell-index l.cells) ≡ with_cells (made_view l.fn.self) l.cells;
  counted : l.self.states ≡ l.fn.self.states + l.cell-index;
}
