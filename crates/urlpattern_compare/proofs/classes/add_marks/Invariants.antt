use Rattle.std.proofs.Common.{take}
use Rattle.std.specs.List.{All, Contains}
use Rattle.urlpattern_compare.specs.Exits.{AreKeptIn}
use Rattle.urlpattern_compare.proofs.classes.add_marks.Given as goal

abbrev pub invariant-loop-c : goal.invariant-loop-c
invariant-loop-c l = record {
  kept : AreKeptIn l.fn.marks.items l.marks.items;
  added : All (Contains l.marks.items) (take l.c-index l.text);
}
