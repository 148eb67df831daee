use Rattle.std.proofs.Common.{refl}
use Rattle.urlpattern_engine.proofs.BoundedSearchLemmas.{cells_of_found, no_cells}
use Rattle.urlpattern_engine.proofs.bounded_search.BoundedSearch.find.Goals as goal

pub returns-in-Some : goal.returns-in-Some
returns-in-Some c = cells_of_found c.args.self.now _ refl _ (rw c.in-Some.is at c.in_ok-end.ensures.found)

pub returns-in-None : goal.returns-in-None
returns-in-None c = no_cells c.args.self.now (rw c.in-None.is at c.in_ok-end.ensures.found)
