use Rattle.std.proofs.Common.{◌∙◌, ⊎_elim, ap, arith}
use Rattle.regex_nfa.specs.declared.state.State.TheVariants.{Sparse}
use Rattle.urlpattern_engine.specs.BoundedSearches.{next_in}
use Rattle.urlpattern_engine.proofs.BoundedSearchLemmas.{none_by_no_byte, run_by_first, run_by_second, sparse_is_no_match}
use Rattle.urlpattern_engine.proofs.bounded_search.BoundedSearch.loop_end_by_state.Goals as goal

pub bytes-preserved : goal.bytes-preserved
bytes-preserved c =
    let trial = c.args.self.now in
    let place = c.bytes.place in
    let seen = c.after_writes.result in
    let from = c.in-Sparse.from in
    let to = c.in-Sparse.to in
    let within = c.is_byte_of.ensures c.bytes-test.true in
    let left =
    c.after_writes.ensures.none place
    (none_by_no_byte trial seen place (Sparse from to) c.in-Sparse.ensures.is tt (sparse_is_no_match trial seen place from to)
    c.next.result (c.next.ensures.is ∙ ap (λ s. next_in trial s place) c.in-Sparse.is) c.is_none.result c.if-is_none.true c.is_none.ensures) in
    record {
      same =
          c.bytes.invariant.same
          ∙ ⊎_elim
          (λ is. run_by_first trial c.args.id place c.args.body c.args.exit is left)
          (λ is. run_by_second trial c.args.id place c.args.exit c.args.body is left)
          c.requires.choice
          ∙ c.requires.goes place within;
      within = omega (arith, within.inside);
    }
