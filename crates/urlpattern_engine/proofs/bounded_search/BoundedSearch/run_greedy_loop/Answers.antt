use Rattle.std.proofs.Common.{arith}
use Rattle.urlpattern_engine.proofs.BoundedSearchLemmas.{none_to_end}
use Rattle.urlpattern_engine.proofs.bounded_search.BoundedSearch.run_greedy_loop.Goals as goal

pub returns-clause-fails : goal.returns-clause-fails
returns-clause-fails c failed =
    let trial = c.args.self.now in
    let place = c.loop_end-place.result in
    let last = c.loop_end-last.result in
    none_to_end trial c.args.id c.args.body c.args.exit place last c.requires.choice
    (c.in-Some.ensures.goes place (c.is_byte_of.ensures c.if-not-is_byte_of.false)) c.loop_end-last.ensures.same
    (omega (arith, c.if-last-self.false, c.loop_end-last.ensures.within)) c.in-Some.ensures.ends (c.fails.ensures failed)
