use Rattle.std.proofs.Common.{[], ◌∙◌, ◌++◌, ◌∷◌, ap, get_or, sym, take_all}
use Rattle.urlpattern_compare.proofs.TogetherLemmas.{each_more}
use Rattle.urlpattern_compare.specs.CoveringTogether.{at_each}
use Rattle.urlpattern.proofs.router.check.at_each.Goals as goal

pub loop-index-preserved : goal.loop-index-preserved
loop-index-preserved g c =
    let values = c.args.values.now in
    let indices = c.args.indices.now in
    let i = c.loop-index.index-index in
    c.in_ok-push_at.ensures ∙ ap (λ l. l ++ at_each values (get_or indices i 0 ∷ [])) c.loop-index.invariant ∙ sym (each_more values indices i c.loop-index-test.true)

pub returns : goal.returns
returns g c = c.loop-index.invariant ∙ ap (at_each c.args.values.now) (take_all c.loop-index.index-index c.args.indices.now c.loop-index-test.false)
