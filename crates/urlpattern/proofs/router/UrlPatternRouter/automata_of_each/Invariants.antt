use Rattle.std.specs.Str.{chars}
use Rattle.urlpattern.proofs.RouteReachLemmas.{AreBefore}
use Rattle.urlpattern.specs.Routes.{Takes}
use Rattle.urlpattern.proofs.router.UrlPatternRouter.automata_of_each.Given as goal

-- The routes before `index`.
abbrev pub invariant-loop-index : goal.invariant-loop-index
invariant-loop-index g l = AreBefore g.R.RegExp l.self.routes (Takes (chars l.method)) l.index l.routes.items l.automata.items
