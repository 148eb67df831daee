use Rattle.std.proofs.Common.{◌≡◌, length, true}
use Rattle.std.specs.Prelude.{unwrap_or}
use Rattle.std.specs.Str.{chars}
use Rattle.urlpattern.proofs.NextLemmas.{left}
use Rattle.urlpattern.proofs.RouteLemmas.{IsNextRoute}
use Rattle.urlpattern.specs.QuickRoutes.{Any}
use Rattle.urlpattern.specs.Routes.{NoneServesBefore, Takes}
use Rattle.urlpattern_matches.specs.MatchInput.{pathname_alone}
use Rattle.urlpattern.proofs.router.UrlPatternRouter.first_quickly.Given as goal

abbrev pub invariant-loop-found : goal.invariant-loop-found
invariant-loop-found g l = record {
  next : IsNextRoute g.R.RegExp.answer l.self.routes (Takes (chars l.method)) (pathname_alone (chars l.path)) l.found;
  missing : l.is_missing ≡ true → NoneServesBefore g.R.RegExp.answer l.self.routes Any (pathname_alone (chars l.path)) (unwrap_or l.found (length l.self.routes));
}

abbrev pub decreases-loop-found : goal.decreases-loop-found
decreases-loop-found g l = left (length l.self.routes) l.found
