use Rattle.std.proofs.Common.{◌≡◌, ◌≢◌, ◌≤◌, ◌∙◌, ap, ℕ, List, subst, sym, take, take_all}
use Rattle.std.proofs.lemmas.List.Elements.{All-get_or, All-more, All-weaker}
use Rattle.std.specs.List.{All}
use Rattle.urlpattern_compare.proofs.ExitLemmas.{move_kept}
use Rattle.urlpattern_compare.specs.Exits.{joint_moved_by}
use Rattle.urlpattern_compare.specs.Moves.{HasMove}
use Rattle.urlpattern_compare.specs.declared.moves.Move.{Move}
use Rattle.urlpattern_syntax.specs.Text.{line_feed}
use Rattle.urlpattern_compare.proofs.moves.add_moves.Goals as goal

pub loop-c-preserved : goal.loop-c-preserved
loop-c-preserved c =
    let exits = c.args.exits.now in
    let block = c.args.block.now in
    let i = c.loop-c.c-index in
    let old = c.loop-c.moves.items in
    let new = c.add_move_by.new.moves.items in
    let before = c.loop-c.invariant in
    let after = c.in_ok-add_move_by.ensures in
    let P : List Move → ℕ → Type 0 = λ moves d. d ≢ line_feed → HasMove moves (joint_moved_by exits d) in
    let same : joint_moved_by c.deref.result.now c.c-item.result ≡ joint_moved_by exits c.c-item.result =
    ap (λ l. joint_moved_by l c.c-item.result) c.deref.ensures.value ∙ c.in_ok-near.ensures c.c-item.result
    (subst (λ d. c.least.result ≤ d) (sym c.c-item.is) (All-get_or (λ d. c.least.result ≤ d) block i c.c-item.result c.loop-c-test.true c.least.ensures))
    (subst (λ d. d ≤ c.greatest.result) (sym c.c-item.is) (All-get_or (λ d. d ≤ c.greatest.result) block i c.c-item.result c.loop-c-test.true c.greatest.ensures)) in
    record {
      kept = λ it has. after.kept it (before.kept it has);
      moves = λ are. after.moves exits same (before.moves are);
      added = All-more (P new) block i c.c-item.result c.loop-c-test.true (All-weaker (P old) (P new) (λ d has plain. move_kept old new (joint_moved_by exits d) after.kept (has plain)) (take i block) before.added)
          (subst (P new) c.c-item.is (λ plain. subst (HasMove new) same (after.added plain)));
    }

pub returns-clause-added : goal.returns-clause-added
returns-clause-added c =
    subst (All (λ d. d ≢ line_feed → HasMove c.loop-c.moves.items (joint_moved_by c.args.exits.now d))) (take_all c.loop-c.c-index c.args.block.now c.loop-c-test.false) c.loop-c.invariant.added
