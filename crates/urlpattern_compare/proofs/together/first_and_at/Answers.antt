use Rattle.std.proofs.Common.{◌∙◌, ◌++◌, ◌∷◌, [], ap, append_assoc, get_or, sym, take, take_all}
use Rattle.urlpattern_compare.proofs.TogetherLemmas.{each_more, first_more}
use Rattle.urlpattern_compare.specs.CoveringTogether.{at_each}
use Rattle.urlpattern_compare.proofs.together.first_and_at.Goals as goal

pub loop-first-preserved : goal.loop-first-preserved
loop-first-preserved c =
    let patterns = c.args.patterns.now in
    let i = c.loop-first.first in
    c.in_ok-push_at.ensures ∙ ap (λ l. l ++ at_each patterns (i ∷ [])) c.loop-first.invariant ∙ first_more patterns i

pub loop-index-preserved : goal.loop-index-preserved
loop-index-preserved c =
    let patterns = c.args.patterns.now in
    let by = c.args.by.now in
    let i = c.loop-index.index-index in
    let first = take c.args.count patterns in
    c.in_ok-push_at-2.ensures ∙ ap (λ l. l ++ at_each patterns (get_or by i 0 ∷ [])) c.loop-index.invariant
    ∙ append_assoc first (at_each patterns (take i by)) (at_each patterns (get_or by i 0 ∷ [])) ∙ ap (λ l. first ++ l) (sym (each_more patterns by i c.loop-index-test.true))

pub returns : goal.returns
returns c =
    let patterns = c.args.patterns.now in
    c.loop-index.invariant ∙ ap (λ l. take c.args.count patterns ++ at_each patterns l) (take_all c.loop-index.index-index c.args.by.now c.loop-index-test.false)
