use Rattle.std.proofs.Common.{map}
use Rattle.urlpattern.proofs.ConflictLemmas.{AreUnreachedBelow}
use Rattle.urlpattern.proofs.router.UrlPatternRouter.unreached_routes.Given as goal

abbrev pub invariant-loop-index : goal.invariant-loop-index
invariant-loop-index g l = AreUnreachedBelow l.limits l.self.routes (map (λ it. it.now) l.all) l.index l.found.items
