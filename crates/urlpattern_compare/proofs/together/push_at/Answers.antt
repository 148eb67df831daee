use Rattle.std.proofs.Common.{◌∙◌, ◌++◌, ap, append-nil, length, refl, sym}
use Rattle.std.proofs.lemmas.Option.{slice_get_read}
use Rattle.urlpattern_compare.proofs.TogetherLemmas.{none_each, one_each}
use Rattle.urlpattern_compare.proofs.together.push_at.Goals as goal

pub returns-in_ok-push : goal.returns-in_ok-push
returns-in_ok-push c =
    let patterns = c.args.patterns.now in
    let i = c.args.index in
    let pattern = c.index-patterns-index.result in
    let there = slice_get_read patterns (length patterns) i pattern refl c.if-index-patterns.true c.index-patterns-index.is in
    c.in_ok-push.ensures.items ∙ ap (λ l. c.args.some.now.items ++ l) (sym (one_each patterns i pattern there))

pub returns-else-index-patterns : goal.returns-else-index-patterns
returns-else-index-patterns c =
    let all = c.args.some.now.items in
    sym (ap (λ l. all ++ l) (none_each c.args.patterns.now c.args.index c.if-index-patterns.false) ∙ append-nil all)
