use Rattle.std.proofs.Common.{take}
use Rattle.urlpattern.specs.Reached.{HaveAllAutomata}
use Rattle.urlpattern.proofs.list.unreached.automata_of_each.Given as goal

abbrev pub invariant-loop-pattern : goal.invariant-loop-pattern
invariant-loop-pattern g l = HaveAllAutomata g.R.RegExp (take l.pattern-index l.patterns) l.all.items
