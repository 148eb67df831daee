use Rattle.std.proofs.Common.{◌≡◌, ◌≤◌, ◌++◌, suc, arith, map, subst, sym, take}
use Rattle.urlpattern_compare.specs.CoveringTogether.{AreCovering, IsFewest, at_each}
use Rattle.urlpattern_compare.proofs.together.fewest.Goals as goal

pub returns : goal.returns
returns c =
    let all = map (λ it. it.now) c.args.patterns.now in
    let low = c.loop-low.low in
    let high = c.loop-low.high in
    let kept = c.loop-low.invariant in
    let next : high ≡ suc low = omega (arith, kept.order, c.loop-low-test.false) in
    subst (λ n. IsFewest c.args.limits all c.args.asked.now c.args.by.now c.args.end n) (sym next)
    (record {
      within = subst (λ n. n ≤ c.args.end) next kept.within;
      cover = subst (λ n. AreCovering (take n all ++ at_each all c.args.by.now) c.args.asked.now) next kept.cover;
      needed = kept.needed;
    })
