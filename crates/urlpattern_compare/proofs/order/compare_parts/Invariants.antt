use Rattle.std.proofs.Common.{◌≡◌, ◌+◌, length}
use Rattle.urlpattern_compare.specs.Order.{parts_cmp}
use Rattle.urlpattern_compare.proofs.order.compare_parts.Given as goal

abbrev pub invariant-loop-left : goal.invariant-loop-left
invariant-loop-left l = parts_cmp l.initial.left l.initial.right ≡ parts_cmp l.left l.right

abbrev pub decreases-loop-left : goal.decreases-loop-left
decreases-loop-left l = length l.left + length l.right
