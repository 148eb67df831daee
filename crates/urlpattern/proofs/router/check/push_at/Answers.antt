use Rattle.std.proofs.Common.{◌∙◌, ◌++◌, ap, append-nil, length, refl, sym}
use Rattle.std.proofs.lemmas.Option.{slice_get_read}
use Rattle.urlpattern_compare.proofs.TogetherLemmas.{none_each, one_each}
use Rattle.urlpattern.proofs.router.check.push_at.Goals as goal

pub returns-then-index-values : goal.returns-then-index-values
returns-then-index-values g c =
    let all = c.args.found.now.items in
    sym (ap (λ l. all ++ l) (none_each c.args.values.now c.args.index c.if-index-values.true) ∙ append-nil all)

pub returns : goal.returns
returns g c =
    let values = c.args.values.now in
    let i = c.args.index in
    let value = c.index-values-index.result in
    let there = slice_get_read values (length values) i value refl c.if-index-values.false c.index-values-index.is in
    c.in_ok-push.ensures.items ∙ ap (λ l. c.args.found.now.items ++ l) (sym (one_each values i value there))
