-- The entries are those of the lines so far, which are UTF-8.
use Rattle.std.proofs.Common.{◌≡◌, ◌++◌, ℕ, List, All, length}
use Rattle.std.specs.Str.{IsUtf8}
use Rattle.urlpat_matching.specs.Tables.{entries_from, entries_view, table_lines}
use Rattle.urlpat_matching.proofs.table.entries_of.Given as goal

abbrev pub invariant-loop-line : goal.invariant-loop-line
invariant-loop-line l =
    (before : List (List ℕ)) × (table_lines l.fn.table ≡ before ++ l.line-iterator) × (l.number ≡ length before)
    × (entries_view l.entries.items ≡ entries_from 1 before) × All IsUtf8 before
