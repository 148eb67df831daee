-- The patterns of the entries so far are added.
use Rattle.std.proofs.Common.{map, take}
use Rattle.urlpat_matching.specs.Tables.{entries_view}
use Rattle.urlpat_tables.specs.FilterLines.{AddsTexts}
use Rattle.urlpat_tables.proofs.filter_patterns.add_entries.Given as goal

abbrev pub invariant-loop-entry : goal.invariant-loop-entry
invariant-loop-entry g l = AddsTexts l.ignore_case l.asked (map (λ entry. entry.pattern) (entries_view (take l.entry-index l.entries))) l.initial.patterns l.patterns
