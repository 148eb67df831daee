-- The lines so far are appended.
use Rattle.std.proofs.Common.{◌≡◌, ◌++◌, ℕ, List}
use Rattle.std.specs.List.{flat_map}
use Rattle.urlpat_tables.specs.TableRoutes.{bare_lines, cell_text}
use Rattle.urlpat_tables.proofs.row.push_cells.Given as goal

abbrev pub invariant-loop-line : goal.invariant-loop-line
invariant-loop-line l =
    (before : List (List ℕ)) × (bare_lines l.fn.text ≡ before ++ l.line-iterator) × (l.row.items ≡ l.initial.row.items ++ flat_map cell_text before)
