use Rattle.std.proofs.Common.{◌≢◌, ◌≤◌, ◌⊎◌, ℕ, List, ap, length, length-drop, map, rules, subst, sym}
use Rattle.std.proofs.lemmas.Result.{IfOk-weaker}
use Rattle.std.specs.List.{All, Contains}
use Rattle.urlpattern_compare.proofs.ExitLemmas.{has_move, moves_alike, moves_or_left}
use Rattle.urlpattern_compare.specs.Exits.{HasAlike, joint_moved_by}
use Rattle.urlpattern_compare.specs.Moves.{HasMove}
use Rattle.urlpattern_compare.specs.declared.moves.Move.{Move}
use Rattle.urlpattern_syntax.specs.Text.{line_feed}
use Rattle.urlpattern_compare.proofs.moves.unlike_classes.Goals as goal

pub loop-left-smaller : goal.loop-left-smaller
loop-left-smaller c =
    let left = c.loop-left.left.now in
    let rest = ap length c.split.ensures.others in
    let fewer = length-drop 32 left in
    search (rules, rest, fewer)

pub loop-left-preserved : goal.loop-left-preserved
loop-left-preserved c =
    let exits = c.args.exits.now in
    let left = c.loop-left.left.now in
    let old = c.loop-left.moves.items in
    let new = c.add_moves.new.moves.items in
    let after = c.in_ok-add_moves.ensures in
    let P : ℕ → Type 0 = λ d. d ≢ line_feed → HasMove new (joint_moved_by exits d) in
    record {
      moves = after.moves c.loop-left.invariant.moves;
      left = λ d has plain.
          subst (λ l. Contains l d ⊎ HasMove new (joint_moved_by exits d)) (sym c.split.ensures.others)
          (moves_or_left exits old new left 32 d after.kept (subst (All P) c.split.ensures.own after.added) plain (c.loop-left.invariant.left d has plain));
    }

pub returns : goal.returns
returns c =
    let exits = c.args.exits.now in
    let moves = c.loop-left.moves.items in
    let none : length c.loop-left.left.now ≤ 0 = search rules in
    IfOk-weaker c.characters_of.result _ _
    (λ found are d has plain. subst (λ l. HasAlike exits l d) (sym are)
    (subst (λ (l : List Move). HasAlike exits (map (λ (it : Move). it.c) l) d) (sym c.deref.ensures.value)
    (moves_alike exits moves d c.loop-left.invariant.moves (has_move exits moves c.loop-left.left.now d none (c.loop-left.invariant.left d has plain)))))
    c.characters_of.ensures
