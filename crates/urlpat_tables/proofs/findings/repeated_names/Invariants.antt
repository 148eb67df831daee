-- The faults are those of the entries so far.
use Rattle.std.proofs.Common.{◌≡◌, [], take}
use Rattle.urlpat_matching.specs.Tables.{entries_view}
use Rattle.urlpat_tables.specs.Findings.{repeated_names}
use Rattle.urlpat_tables.proofs.findings.repeated_names.Given as goal

abbrev pub invariant-loop-index : goal.invariant-loop-index
invariant-loop-index l = l.faults.items ≡ repeated_names [] (entries_view (take l.index l.entries))
