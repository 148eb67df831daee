use Rattle.std.proofs.Common.{◌∙◌, ⊎_elim, arith, sym, true≢false}
use Rattle.urlpattern_engine.specs.BoundedSearches.{IsInSpan}
use Rattle.urlpattern_engine.proofs.BoundedSearchLemmas.{run_by_first, run_by_second}
use Rattle.urlpattern_engine.proofs.bounded_search.BoundedSearch.loop_end.Goals as goal

pub bytes-preserved : goal.bytes-preserved
bytes-preserved c =
    let trial = c.args.self.now in
    let place = c.bytes.place in
    let inside = c.contains.ensures.0 c.if-not-contains.false in
    let within : IsInSpan trial c.args.inside place = record { inside = c.bytes-test.true; has = inside } in
    let goes = c.requires.goes place within in
    let left = c.requires.leaves place c.bytes-test.true (λ w. true≢false (sym (c.contains-in-bytes.ensures.1 w.has) ∙ c.if-contains.false)) in
    record {
      same =
          c.bytes.invariant.same
          ∙ ⊎_elim
          (λ is. run_by_first trial c.args.id place c.args.body c.args.exit is left)
          (λ is. run_by_second trial c.args.id place c.args.exit c.args.body is left)
          c.requires.choice
          ∙ goes;
      within = omega (arith, c.bytes-test.true);
    }
