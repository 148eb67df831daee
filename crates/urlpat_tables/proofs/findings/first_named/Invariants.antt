-- No entry so far has the name.
use Rattle.std.proofs.Common.{◌≡◌, None, take}
use Rattle.urlpat_matching.specs.Tables.{entries_view}
use Rattle.urlpat_tables.specs.Findings.{first_named}
use Rattle.urlpat_tables.proofs.findings.first_named.Given as goal

abbrev pub invariant-loop-entry : goal.invariant-loop-entry
invariant-loop-entry l = first_named (entries_view (take l.entry-index l.entries)) l.name ≡ None
