use Rattle.std.proofs.Common.{take}
use Rattle.std.specs.List.{All}
use Rattle.urlpattern_compare.specs.Exits.{HasBreaksOf}
use Rattle.urlpattern_compare.proofs.classes.breaks_of.Given as goal

abbrev pub invariant-loop-own : goal.invariant-loop-own
invariant-loop-own l = All (HasBreaksOf l.breaks.items) (take l.own-index l.exits)
