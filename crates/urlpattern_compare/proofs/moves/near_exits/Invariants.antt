use Rattle.std.proofs.Common.{take}
use Rattle.urlpattern_compare.specs.Moves.{AreNear}
use Rattle.urlpattern_compare.proofs.moves.near_exits.Given as goal

abbrev pub invariant-loop-own : goal.invariant-loop-own
invariant-loop-own l = AreNear (take l.own-index l.exits) l.least l.greatest l.near.items
