use Rattle.std.proofs.Common.{◌≢◌, take}
use Rattle.std.specs.List.{All}
use Rattle.urlpattern_compare.specs.Exits.{AreKeptIn, joint_moved_by}
use Rattle.urlpattern_compare.specs.Moves.{AreMoves, HasMove}
use Rattle.urlpattern_syntax.specs.Text.{line_feed}
use Rattle.urlpattern_compare.proofs.moves.add_moves.Given as goal

abbrev pub invariant-loop-c : goal.invariant-loop-c
invariant-loop-c l = record {
  kept : AreKeptIn l.fn.moves.items l.moves.items;
  moves : AreMoves l.exits l.fn.moves.items → AreMoves l.exits l.moves.items;
  added : All (λ c. c ≢ line_feed → HasMove l.moves.items (joint_moved_by l.exits c)) (take l.c-index l.block);
}
