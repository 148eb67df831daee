use Rattle.std.specs.List.{range_with_len}
use Rattle.urlpattern.specs.Conflicts.{AreKept, OfRoutes, TakesAllOf}
use Rattle.urlpattern.proofs.router.UrlPatternRouter.earlier_routes.Given as goal

abbrev pub invariant-loop-before : goal.invariant-loop-before
invariant-loop-before g l = AreKept (λ before. OfRoutes l.self.routes TakesAllOf before l.index) (range_with_len 0 l.before) l.earlier.items
