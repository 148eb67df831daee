use Rattle.std.proofs.Common.{◌≤◌}
use Rattle.urlpattern_engine.proofs.bounded_search.BoundedSearch.sparse_bytes.Given as goal

abbrev pub invariant-transitions : goal.invariant-transitions
invariant-transitions l = l.from ≤ l.k
