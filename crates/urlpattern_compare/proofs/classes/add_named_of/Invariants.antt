use Rattle.std.proofs.Common.{take}
use Rattle.std.specs.List.{All}
use Rattle.urlpattern_compare.specs.Exits.{AreKeptIn, HasNames}
use Rattle.urlpattern_compare.proofs.classes.add_named_of.Given as goal

abbrev pub invariant-loop-edge : goal.invariant-loop-edge
invariant-loop-edge l = record {
  kept : AreKeptIn l.fn.marks.items l.marks.items;
  added : All (λ edge. HasNames l.ignore_case l.marks.items edge.test) (take l.edge-index l.edges);
}
