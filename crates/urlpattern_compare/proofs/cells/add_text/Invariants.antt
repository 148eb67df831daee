use Rattle.std.proofs.Common.{◌≡◌, ◌++◌, map}
use Rattle.urlpattern_compare.specs.Cells.{text_cells}
use Rattle.urlpattern_meaning.specs.Matching.{folded_character}
use Rattle.urlpattern_compare.proofs.cells.add_text.Given as goal

abbrev pub invariant-loop-c : goal.invariant-loop-c
invariant-loop-c l = l.cells.items ≡ l.fn.cells.items ++ text_cells (map (folded_character l.ignore_case) l.yielded)
