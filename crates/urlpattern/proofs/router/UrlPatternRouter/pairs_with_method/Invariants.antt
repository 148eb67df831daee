use Rattle.std.proofs.Common.{◌≡◌, ◌++◌}
use Rattle.urlpattern.specs.Conflicts.{AreKept, OfRoutes, ShareMethod}
use Rattle.urlpattern.proofs.router.UrlPatternRouter.pairs_with_method.Given as goal

-- The pairs that are kept, and the remaining ones.
abbrev pub invariant-loop-pair : goal.invariant-loop-pair
invariant-loop-pair g l = record {
  kept : AreKept (λ pair. OfRoutes l.self.routes ShareMethod pair.first pair.second) l.yielded l.kept.items;
  left : l.yielded ++ l.pair-iterator.rest.items ≡ l.fn.pairs.items;
}
