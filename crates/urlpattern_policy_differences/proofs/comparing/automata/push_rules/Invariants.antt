use Rattle.std.proofs.Common.{take}
use Rattle.urlpattern_policy_differences.specs.Comparing.{AppendsRules}
use Rattle.urlpattern_policy_differences.proofs.comparing.automata.push_rules.Given as goal

abbrev pub invariant-loop-index : goal.invariant-loop-index
invariant-loop-index g l = AppendsRules g.R.RegExp (take l.index l.rules) l.initial.automata l.automata
