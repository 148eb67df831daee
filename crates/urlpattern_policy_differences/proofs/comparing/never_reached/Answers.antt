use Rattle.std.proofs.Common.{arith, length, refl}
use Rattle.std.proofs.lemmas.Option.{slice_get_read}
use Rattle.urlpattern_policy_differences.proofs.ComparingLemmas.{all_never, never_step, none_never_in}
use Rattle.urlpattern_policy_differences.proofs.comparing.never_reached.Goals as goal

pub loop-index-init : goal.loop-index-init
loop-index-init c = none_never_in c.args.found.now c.new-dead.result.items c.new-dead.ensures.items

pub loop-index-preserved : goal.loop-index-preserved
loop-index-preserved c =
    let found = c.args.found.now in
    let i = c.loop-index.index in
    let there = slice_get_read found (length found) i c.index-found-index.result refl c.loop-index-test.true c.index-found-index.is in
    never_step found c.loop-index.dead.items c.push_if_never.new.dead.items i c.index-found-index.result there c.in_ok-push_if_never.ensures c.loop-index.invariant

pub returns : goal.returns
returns c = all_never c.args.found.now c.loop-index.dead.items c.loop-index.index (omega (arith, c.loop-index-test.false, c.loop-index.auto.index-end)) c.loop-index.invariant
