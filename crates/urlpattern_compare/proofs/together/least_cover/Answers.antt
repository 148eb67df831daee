use Rattle.std.proofs.Common.{◌++◌, [], length, map, subst, sym, take}
use Rattle.std.proofs.lemmas.List.{length-map}
use Rattle.urlpattern_compare.proofs.TogetherLemmas.{IsLeft, all_left, least, next_is}
use Rattle.urlpattern_compare.specs.CoveringTogether.{AreCovering, IsFewest, at_each}
use Rattle.urlpattern_compare.proofs.together.least_cover.Goals as goal

pub loop-end-init : goal.loop-end-init
loop-end-init c =
    let all = map (λ it. it.now) c.args.patterns.now in
    subst (λ by. IsLeft c.args.limits all c.args.asked.now by (length c.args.patterns.now)) (sym c.new-by.ensures.items)
    (subst (λ n. IsLeft c.args.limits all c.args.asked.now [] n) (length-map c.args.patterns.now (λ it. it.now)) (all_left c.args.limits all c.args.asked.now c.requires.covered))

pub fewest-requires-clause-covered : goal.fewest-requires-clause-covered
fewest-requires-clause-covered c =
    let all = map (λ it. it.now) c.args.patterns.now in
    subst (λ by. AreCovering (take c.loop-end.end all ++ at_each all by) c.args.asked.now) (sym c.deref.ensures.value) c.loop-end.invariant.cover

pub loop-end-preserved : goal.loop-end-preserved
loop-end-preserved c =
    let all = map (λ it. it.now) c.args.patterns.now in
    let fewest = subst (λ by. IsFewest c.args.limits all c.args.asked.now by c.loop-end.end c.in_ok-count.count) c.deref.ensures.value c.in_ok-count.ensures in
    next_is c.args.limits all c.args.asked.now c.loop-end.by.items c.insert_last.new.by.items c.loop-end.end c.in_ok-count.count c.in_ok-last.last
    c.in_ok-last.ensures.by c.in_ok-last.ensures.last c.loop-end.invariant fewest

pub returns : goal.returns
returns c = least c.args.limits (map (λ it. it.now) c.args.patterns.now) c.args.asked.now c.loop-end.by.items c.loop-end.end c.loop-end-test.false c.loop-end.invariant
