use Rattle.std.proofs.Common.{◌+◌, subst, sym, take, take_all}
use Rattle.urlpattern_compare.proofs.ExitLemmas.{near_more}
use Rattle.urlpattern_compare.specs.Moves.{AreNear}
use Rattle.urlpattern_compare.proofs.moves.near_exits.Goals as goal

pub loop-own-preserved : goal.loop-own-preserved
loop-own-preserved c =
    let is = c.in_ok-own_near.ensures in
    subst (AreNear (take (c.loop-own.own-index + 1) c.args.exits.now) c.args.least c.args.greatest) (sym c.in_ok-push.ensures.items)
    (near_more c.args.exits.now c.loop-own.near.items c.loop-own.own-index c.own-item.result c.in_ok-own_near.own_near c.args.least c.args.greatest c.loop-own-test.true c.own-item.is c.loop-own.invariant is.edges is.states is.case)

pub returns : goal.returns
returns c =
    subst (λ l. AreNear l c.args.least c.args.greatest c.loop-own.near.items) (take_all c.loop-own.own-index c.args.exits.now c.loop-own-test.false) c.loop-own.invariant
