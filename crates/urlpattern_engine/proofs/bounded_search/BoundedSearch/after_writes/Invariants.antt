use Rattle.std.proofs.Common.{◌≡◌, ℕ, None}
use Rattle.urlpattern_engine.specs.BoundedSearches.{IsState, run_in}
use Rattle.urlpattern_engine.proofs.bounded_search.BoundedSearch.after_writes.Given as goal

abbrev pub invariant-writes : goal.invariant-writes
invariant-writes l = record {
  within : IsState l.self l.seen;
  none : (at : ℕ) → run_in l.self l.seen at ≡ None → run_in l.self l.fn.id at ≡ None;
}
