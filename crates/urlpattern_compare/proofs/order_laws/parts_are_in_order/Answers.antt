use Rattle.urlpattern_compare.proofs.OrderLemmas.{parts_total}
use Rattle.urlpattern_compare.proofs.order_laws.parts_are_in_order.Goals as goal

pub returns : goal.returns
returns c = parts_total
