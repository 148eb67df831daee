use Rattle.std.proofs.Common.{◌≡◌, ◌+◌, ◌*◌, ◌≤◌}
use Rattle.urlpattern_engine.specs.BoundedSearches.{IsTextPlace, IsState, found_from}
use Rattle.urlpattern_engine.proofs.bounded_search.BoundedSearch.+search.Given as goal

abbrev pub decreases-end : goal.decreases-end
decreases-end l = 2 * l.depth + 1

abbrev pub decreases-try_branch : goal.decreases-try_branch
decreases-try_branch l = 2 * l.depth

abbrev pub invariant-end-states : goal.invariant-end-states
invariant-end-states l = record {
  is_state : IsState l.self l.id;
  is_place : IsTextPlace l.self l.place;
  same : found_from l.self l.cells l.id l.place ≡ found_from l.self l.fn.cells l.fn.state l.fn.at;
  fewer : l.budget ≤ l.fn.budget;
}

abbrev pub decreases-end-states : goal.decreases-end-states
decreases-end-states l = l.budget
