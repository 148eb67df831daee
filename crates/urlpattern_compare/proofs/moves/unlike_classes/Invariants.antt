use Rattle.std.proofs.Common.{◌≢◌, ◌⊎◌, ℕ, length}
use Rattle.std.specs.List.{Contains}
use Rattle.urlpattern_compare.specs.Exits.{joint_moved_by}
use Rattle.urlpattern_compare.specs.Moves.{AreMoves, HasMove}
use Rattle.urlpattern_syntax.specs.Text.{line_feed}
use Rattle.urlpattern_compare.proofs.moves.unlike_classes.Given as goal

abbrev pub invariant-loop-left : goal.invariant-loop-left
invariant-loop-left l = record {
  moves : AreMoves l.exits l.moves.items;
  left : (c : ℕ) → Contains l.fn.classes.items c → c ≢ line_feed → Contains l.left c ⊎ HasMove l.moves.items (joint_moved_by l.exits c);
}

abbrev pub decreases-loop-left : goal.decreases-loop-left
decreases-loop-left l = length l.left
