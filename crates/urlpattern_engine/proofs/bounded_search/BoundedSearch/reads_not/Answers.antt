use Rattle.std.proofs.Common.{◌∙◌, ap}
use Rattle.regex_nfa.specs.declared.state.State.TheVariants.{ByteRange, Sparse}
use Rattle.urlpattern_engine.specs.BoundedSearches.{next_in}
use Rattle.urlpattern_engine.proofs.BoundedSearchLemmas.{none_by_no_byte, range_is_no_match, sparse_is_no_match}
use Rattle.urlpattern_engine.proofs.bounded_search.BoundedSearch.reads_not.Goals as goal

pub returns-in-ByteRange : goal.returns-in-ByteRange
returns-in-ByteRange c tested =
    let trial = c.args.self.now in
    let t = c.in-ByteRange.field-0 in
    none_by_no_byte trial c.args.id c.args.at (ByteRange t) c.in-ByteRange.ensures.is tt (range_is_no_match trial c.args.id c.args.at t)
    c.next.result (c.next.ensures.is ∙ ap (λ s. next_in trial s c.args.at) c.in-ByteRange.is) c.is_none.result tested c.is_none.ensures

pub returns-in-Sparse : goal.returns-in-Sparse
returns-in-Sparse c tested =
    let trial = c.args.self.now in
    let from = c.in-Sparse.from in
    let to = c.in-Sparse.to in
    none_by_no_byte trial c.args.id c.args.at (Sparse from to) c.in-Sparse.ensures.is tt (sparse_is_no_match trial c.args.id c.args.at from to)
    c.next-in-Sparse.result (c.next-in-Sparse.ensures.is ∙ ap (λ s. next_in trial s c.args.at) c.in-Sparse.is) c.is_none-in-Sparse.result tested c.is_none-in-Sparse.ensures
