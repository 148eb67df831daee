use Rattle.std.proofs.Common.{drop}
use Rattle.urlpattern_index.specs.FixedTexts.{path_view}
use Rattle.urlpattern_index.specs.Segments.{AreOpen}
use Rattle.urlpattern_syntax.specs.Parts.{parts_view}
use Rattle.urlpattern_index.proofs.PathSegmentLemmas.{AreReadTo}
use Rattle.urlpattern_index.proofs.path_segments.read_segments.Given as goal

abbrev pub invariant-loop-part : goal.invariant-loop-part
invariant-loop-part l = record {
  are_open : AreOpen l.segments;
  are_read : AreReadTo (path_view l.path) l.segments (parts_view (drop l.part-index l.path.parts.now));
}
