-- The entries so far are read.
use Rattle.std.proofs.Common.{take}
use Rattle.urlpat_matching.specs.Tables.{entries_view}
use Rattle.urlpat_tables.specs.TableRules.{AreRead}
use Rattle.urlpat_tables.proofs.table_rules.read_each.Given as goal

abbrev pub invariant-loop-entry : goal.invariant-loop-entry
invariant-loop-entry g l =
    AreRead (g.M.EntryReader.Reads l.reader) (g.M.EntryReader.Faults l.reader) (entries_view (take l.entry-index l.entries)) l.rules l.faults.items
