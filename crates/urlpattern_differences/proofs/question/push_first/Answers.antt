use Rattle.std.proofs.Common.{◌≡◌, ◌∙◌, ◌++◌, ap, arith, map, take}
use Rattle.urlpattern_differences.proofs.DecidedLemmas.{taken_more}
use Rattle.urlpattern_differences.proofs.question.push_first.Goals as goal

pub loop-index-preserved : goal.loop-index-preserved
loop-index-preserved c =
    taken_more (map (λ it. it.now) c.args.all.now.items) (map (λ it. it.now) c.loop-index.all.items) (map (λ it. it.now) c.push_at.new.all.items) c.args.patterns.now c.loop-index.index
    c.loop-index.invariant c.in_ok-push_at.ensures

pub returns : goal.returns
returns c =
    let whole : c.loop-index.index ≡ c.args.count = omega (arith, c.loop-index-test.false, c.loop-index.auto.index-end) in
    c.loop-index.invariant ∙ ap (λ n. map (λ it. it.now) c.args.all.now.items ++ take n c.args.patterns.now) whole
