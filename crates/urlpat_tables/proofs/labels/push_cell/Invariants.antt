-- The bytes so far are appended, with quotes doubled.
use Rattle.std.proofs.Common.{◌≡◌, ◌++◌, take}
use Rattle.std.specs.List.{flat_map}
use Rattle.urlpat_tables.specs.Labels.{doubled}
use Rattle.urlpat_tables.proofs.labels.push_cell.Given as goal

abbrev pub invariant-loop-byte : goal.invariant-loop-byte
invariant-loop-byte l = l.written.items ≡ l.initial.written.items ++ flat_map doubled (take l.byte-index l.byte-items)
