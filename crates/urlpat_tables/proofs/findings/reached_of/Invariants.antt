-- The numbers of the lines of the rules so far.
use Rattle.std.proofs.Common.{◌≡◌, ◌++◌, map}
use Rattle.std.specs.Map.{values_of}
use Rattle.urlpat_matching.specs.declared.table.Entry.{Entry}
use Rattle.urlpat_tables.specs.FirstRules.{Rules}
use Rattle.urlpat_tables.proofs.findings.reached_of.Given as goal

abbrev pub invariant-loop-entry : goal.invariant-loop-entry
invariant-loop-entry l =
    (before : Rules Entry) × (l.rules ≡ before ++ l.entry-iterator) × (l.lines.items ≡ map (λ entry. entry.number) (values_of before))
