use Rattle.std.proofs.Common.{ℕ, ◌<◌}
use Rattle.std.specs.Str.{chars}
use Rattle.urlpattern.specs.RouteReach.{LacksPartsAt}
use Rattle.urlpattern.specs.Routes.{Takes}
use Rattle.urlpattern.proofs.router.UrlPatternRouter.error_without_memory.Given as goal

abbrev pub invariant-loop-index : goal.invariant-loop-index
invariant-loop-index g l = (k : ℕ) → k < l.index → ¬ LacksPartsAt l.self.routes (Takes (chars l.method)) k
