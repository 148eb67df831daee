use Rattle.urlpattern_engine.proofs.BoundedSearchLemmas.{goes_on_first, goes_on_second, stays_open}
use Rattle.urlpattern_engine.proofs.bounded_search.BoundedSearch.choice.Goals as goal

pub returns-then-first_fails : goal.returns-then-first_fails
returns-then-first_fails c cells =
    goes_on_second c.args.self.now c.args.id c.args.first c.args.second c.args.at c.run_loop-place.result.place c.requires.choice c.requires.states
    c.run_loop-place.ensures.within c.run_loop-place.ensures.same cells (c.run_loop-place.ensures.fails c.if-first_fails.true)

pub returns-then-is_open : goal.returns-then-is_open
returns-then-is_open c cells =
    stays_open c.args.self.now c.args.id c.args.first c.args.second c.args.at c.run_loop-place.result.place c.requires.choice c.requires.states
    c.run_loop-place.ensures.within c.run_loop-place.ensures.same cells

pub returns-then-reads_not : goal.returns-then-reads_not
returns-then-reads_not c cells =
    goes_on_second c.args.self.now c.args.id c.args.first c.args.second c.args.at c.run_loop-place.result.place c.requires.choice c.requires.states
    c.run_loop-place.ensures.within c.run_loop-place.ensures.same cells (c.reads_not.ensures c.if-reads_not.true)

pub returns-then-reads_not-2 : goal.returns-then-reads_not-2
returns-then-reads_not-2 c cells =
    goes_on_first c.args.self.now c.args.id c.args.first c.args.second c.args.at c.run_loop-place.result.place c.requires.choice c.requires.states
    c.run_loop-place.ensures.within c.run_loop-place.ensures.same cells (c.reads_not-2.ensures c.if-reads_not-2.true)

pub returns-then-fails : goal.returns-then-fails
returns-then-fails c cells =
    goes_on_first c.args.self.now c.args.id c.args.first c.args.second c.args.at c.run_loop-place.result.place c.requires.choice c.requires.states
    c.run_loop-place.ensures.within c.run_loop-place.ensures.same cells (c.fails.ensures c.if-fails.true)

pub returns-then-fails-2 : goal.returns-then-fails-2
returns-then-fails-2 c cells =
    goes_on_second c.args.self.now c.args.id c.args.first c.args.second c.args.at c.run_loop-place.result.place c.requires.choice c.requires.states
    c.run_loop-place.ensures.within c.run_loop-place.ensures.same cells (c.fails-2.ensures c.if-fails-2.true)

pub returns : goal.returns
returns c cells =
    stays_open c.args.self.now c.args.id c.args.first c.args.second c.args.at c.run_loop-place.result.place c.requires.choice c.requires.states
    c.run_loop-place.ensures.within c.run_loop-place.ensures.same cells
