use Rattle.std.proofs.Common.{◌≡◌, drop}
use Rattle.urlpattern_compare.specs.Conditions.{are_open}
use Rattle.urlpattern_compare.proofs.joint_states.are_open.Given as goal

abbrev pub invariant-loop-condition : goal.invariant-loop-condition
invariant-loop-condition l = are_open (drop l.condition-index l.conditions) l.left ≡ are_open l.conditions l.flags
