use Rattle.std.proofs.Common.{arith, length}
use Rattle.regex_nfa.specs.declared.state.State.TheVariants.{ByteRange}
use Rattle.urlpattern_engine.proofs.BoundedSearchLemmas.{ends_with_spans, none_past_end, range_is_no_match, run_in_range, run_in_spans}
use Rattle.urlpattern_engine.proofs.bounded_search.BoundedSearch.loop_bytes.Goals as goal

pub returns-then-t-other-clause-goes : goal.returns-then-t-other-clause-goes
returns-then-t-other-clause-goes c i within =
    run_in_range c.args.self.now c.args.id i c.in-ByteRange.t c.args.other c.in-ByteRange.ensures.is c.if-t-other.true within

pub returns-then-t-other-clause-ends : goal.returns-then-t-other-clause-ends
returns-then-t-other-clause-ends c =
    let trial = c.args.self.now in
    let t = c.in-ByteRange.t in
    none_past_end trial c.args.id (length trial.bytes.now) (ByteRange t) c.in-ByteRange.ensures.is tt (range_is_no_match trial c.args.id 0 t) (omega arith)

pub returns-in-Sparse-clause-goes : goal.returns-in-Sparse-clause-goes
returns-in-Sparse-clause-goes c =
    run_in_spans c.args.self.now c.args.id c.in-Sparse.from c.in-Sparse.to c.args.other c.sparse_bytes.result c.in-Sparse.ensures.is c.sparse_bytes.ensures

pub returns-in-Sparse-clause-ends : goal.returns-in-Sparse-clause-ends
returns-in-Sparse-clause-ends c =
    ends_with_spans c.args.self.now c.args.id c.in-Sparse.from c.in-Sparse.to c.sparse_bytes.result c.in-Sparse.ensures.is
