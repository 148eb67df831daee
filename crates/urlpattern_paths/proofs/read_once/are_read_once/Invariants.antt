use Rattle.std.proofs.Common.{◌≡◌, length}
use Rattle.urlpattern_paths.specs.PathCaptures.{are_read_once}
use Rattle.urlpattern_syntax.specs.Parts.{parts_view}
use Rattle.urlpattern_paths.proofs.read_once.are_read_once.Given as goal

abbrev pub invariant-loop-part : goal.invariant-loop-part
invariant-loop-part l = are_read_once (parts_view l.parts) ≡ are_read_once (parts_view l.left)

abbrev pub decreases-loop-part : goal.decreases-loop-part
decreases-loop-part l = length l.left
