use Rattle.std.proofs.Common.{◌-◌, length}
use Rattle.std.specs.Str.{chars}
use Rattle.urlpattern.specs.Routes.{NoneIsNamedBefore}
use Rattle.urlpattern.proofs.router.UrlPatternRouter.find.Given as goal

-- No route before `index` has the name.
abbrev pub invariant-loop-index : goal.invariant-loop-index
invariant-loop-index g l = NoneIsNamedBefore l.self.routes (chars l.name) l.index

abbrev pub decreases-loop-index : goal.decreases-loop-index
decreases-loop-index g l = length l.self.routes - l.index
