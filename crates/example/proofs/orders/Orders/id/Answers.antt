use Rattle.std.proofs.lemmas.Result.{IfErr-weaker, IfOk-weaker}
use Rattle.example.proofs.OrderUrls.{order_asked, order_named, order_named_none}
use Rattle.example.proofs.UserUrls.{found_weaker, none_weaker}
use Rattle.example.proofs.orders.Orders.id.Goals as goal

pub returns-clause-some : goal.returns-clause-some
returns-clause-some c =
    IfOk-weaker c.user.result _ _
    (λ found. found_weaker _ _ (order_named _ c.self.invariant c.args.url.now c.texts_are_lines.ensures.valid c.texts_are_lines.ensures.lines) found)
    c.user.ensures.some

pub returns-clause-none : goal.returns-clause-none
returns-clause-none c =
    IfOk-weaker c.user.result _ _
    (λ found. none_weaker _ _ (order_named_none _ c.self.invariant c.args.url.now c.texts_are_lines.ensures.valid c.texts_are_lines.ensures.lines) found)
    c.user.ensures.none

pub returns-clause-asked : goal.returns-clause-asked
returns-clause-asked c =
    IfErr-weaker c.user.result _ _
    (λ error. order_asked _ c.self.invariant c.args.url.now c.texts_are_lines.ensures.valid c.texts_are_lines.ensures.lines)
    c.user.ensures.asked
