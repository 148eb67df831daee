use Rattle.std.proofs.Common.{◌≡◌, ◌∙◌, ap, ap₂, map, sym}
use Rattle.std.specs.Ordering.{ordering_then}
use Rattle.std.specs.declared.cmp.Ordering.TheVariants.{Equal}
use Rattle.urlpattern_compare.specs.Order.{first_rank, other_ranks, rank_cmp, rank_of, ranks_cmp}
use Rattle.urlpattern_compare.proofs.OrderLemmas.{first_decides, is_equal}
use Rattle.urlpattern_compare.proofs.order.compare_parts.Goals as goal

pub loop-left-preserved : goal.loop-left-preserved
loop-left-preserved c =
    let left = map rank_of c.loop-left.left.now in
    let right = map rank_of c.loop-left.right.now in
    let equal : c.compare-order.result ≡ Equal = is_equal c.compare-order.result (sym c.ne.ensures ∙ c.if-ne.false) in
    let firsts : rank_cmp (first_rank left) (first_rank right) ≡ Equal =
    sym (c.compare-order.ensures ∙ ap₂ rank_cmp c.first_rank.ensures c.first_rank-in-loop-left.ensures) ∙ equal in
    c.loop-left.invariant ∙ first_decides left right ∙ ap (λ o. ordering_then o (ranks_cmp (other_ranks left) (other_ranks right))) firsts
    ∙ ap₂ ranks_cmp (sym c.other_parts-left.ensures) (sym c.other_parts-right.ensures)
