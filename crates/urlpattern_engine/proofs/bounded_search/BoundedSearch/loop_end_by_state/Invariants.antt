use Rattle.std.proofs.Common.{◌≡◌, ◌-◌, length}
use Rattle.urlpattern_engine.specs.BoundedSearches.{IsTextPlace, run_in}
use Rattle.urlpattern_engine.proofs.bounded_search.BoundedSearch.loop_end_by_state.Given as goal

abbrev pub invariant-bytes : goal.invariant-bytes
invariant-bytes l = record {
  same : run_in l.self l.id l.fn.at ≡ run_in l.self l.id l.place;
  within : IsTextPlace l.self l.place;
}

abbrev pub decreases-bytes : goal.decreases-bytes
decreases-bytes l = length l.self.bytes.now - l.place
