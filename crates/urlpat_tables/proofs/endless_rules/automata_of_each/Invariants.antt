-- The automata of the rules so far.
use Rattle.std.proofs.Common.{◌≡◌, ◌++◌}
use Rattle.std.specs.List.{AllZip}
use Rattle.urlpat_tables.specs.RewriteRules.{AreRuleAutomata, RewriteRules}
use Rattle.urlpat_tables.proofs.endless_rules.automata_of_each.Given as goal

abbrev pub invariant-loop-first : goal.invariant-loop-first
invariant-loop-first l = (before : RewriteRules) × (l.rules ≡ before ++ l.first-iterator) × AllZip AreRuleAutomata before l.all.items
