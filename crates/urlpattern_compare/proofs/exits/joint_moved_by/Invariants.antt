use Rattle.std.proofs.Common.{◌≡◌, ◌++◌, drop}
use Rattle.urlpattern_compare.specs.Exits.{joint_moved_by}
use Rattle.urlpattern_compare.proofs.exits.joint_moved_by.Given as goal

abbrev pub invariant-loop-own : goal.invariant-loop-own
invariant-loop-own l = l.flags.items ++ joint_moved_by (drop l.own-index l.exits) l.c ≡ joint_moved_by l.exits l.c
