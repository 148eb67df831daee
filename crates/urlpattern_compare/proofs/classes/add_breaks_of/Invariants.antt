use Rattle.std.proofs.Common.{take}
use Rattle.std.specs.List.{All}
use Rattle.urlpattern_compare.specs.Exits.{AreKeptIn, HasBreaks}
use Rattle.urlpattern_compare.proofs.classes.add_breaks_of.Given as goal

abbrev pub invariant-loop-edge : goal.invariant-loop-edge
invariant-loop-edge l = record {
  kept : AreKeptIn l.fn.breaks.items l.breaks.items;
  added : All (λ edge. HasBreaks l.breaks.items edge.test) (take l.edge-index l.edges);
}
