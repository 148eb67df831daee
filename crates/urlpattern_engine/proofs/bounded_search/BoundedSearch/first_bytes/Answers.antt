use Rattle.std.proofs.Common.{sym}
use Rattle.urlpattern_engine.proofs.BoundedSearchLemmas.{needs_either}
use Rattle.urlpattern_engine.proofs.bounded_search.BoundedSearch.first_bytes.Goals as goal

pub returns-in_ok-other-in-Split : goal.returns-in_ok-other-in-Split
returns-in_ok-other-in-Split c at inside outside =
    let around = c.span_of_both.ensures in
    c.after_writes-seen.ensures.none at
    (needs_either c.args.self.now c.after_writes-seen.result c.in-Split.first c.in-Split.second c.in_ok-one-in-Split.one c.in_ok-other-in-Split.other c.span_of_both.result
    (sym c.in-Split.ensures.is)
    (λ i before past. c.after_writes.ensures.none i (c.in_ok-one-in-Split.ensures i before past))
    (λ i before past. c.after_writes-in-Split.ensures.none i (c.in_ok-other-in-Split.ensures i before past)) around.one around.other at inside outside)
