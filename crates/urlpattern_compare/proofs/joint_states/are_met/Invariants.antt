use Rattle.std.proofs.Common.{◌≡◌, drop}
use Rattle.urlpattern_compare.specs.Conditions.{are_met}
use Rattle.urlpattern_compare.proofs.joint_states.are_met.Given as goal

abbrev pub invariant-loop-condition : goal.invariant-loop-condition
invariant-loop-condition l = are_met (drop l.condition-index l.conditions) l.left ≡ are_met l.conditions l.flags
