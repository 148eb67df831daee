use Rattle.std.proofs.Common.{◌≡◌, ◌++◌, ℕ, drop}
use Rattle.urlpattern_compare.specs.Conditions.{joint_moved}
use Rattle.urlpattern_compare.specs.Exits.{joint_moved_by}
use Rattle.urlpattern_compare.proofs.exits.exits_at.Given as goal

abbrev pub invariant-loop-condition : goal.invariant-loop-condition
invariant-loop-condition l =
    (c : ℕ) → joint_moved_by l.exits.items c ++ joint_moved (drop l.condition-index l.conditions) l.left c ≡ joint_moved l.conditions l.flags c
