use Rattle.std.proofs.Common.{sym}
use Rattle.urlpattern_engine.proofs.BoundedSearchLemmas.{none_of_both}
use Rattle.urlpattern_engine.proofs.bounded_search.BoundedSearch.fails.Goals as goal

pub returns-else-not-stops : goal.returns-else-not-stops
returns-else-not-stops c stops =
    let at = c.args.at in
    c.after_writes-seen.ensures.none at
    (none_of_both c.args.self.now c.after_writes-seen.result at c.in-Split.first c.in-Split.second (sym c.in-Split.ensures.is)
    (c.after_writes.ensures.none at (c.stops.ensures c.if-not-stops.false))
    (c.after_writes-in-Split.ensures.none at (c.stops-in-Split.ensures stops)))
