use Rattle.std.proofs.Common.{refl, rules}
use Rattle.urlpattern_index.proofs.IndexGroupLemmas.{empty-groups}
use Rattle.urlpattern_index.proofs.index.Index.new.Goals as goal

pub returns : goal.returns
returns c =
    let groups = c.from_fn.result in
    let none = empty-groups 13 groups c.from_fn.ensures.items.long (λ i d lt. let (p, q, called) = c.from_fn.ensures.items.at i d lt in search rules) in
    rw (c.new.ensures.items, none) refl
