use Rattle.std.proofs.Common.{◌≡◌, ◌++◌, drop}
use Rattle.urlpattern_compare.specs.Conditions.{joint_starts}
use Rattle.urlpattern_compare.proofs.joint_states.joint_starts.Given as goal

abbrev pub invariant-loop-condition : goal.invariant-loop-condition
invariant-loop-condition l = l.flags.items ++ joint_starts (drop l.condition-index l.conditions) ≡ joint_starts l.conditions
