use Rattle.std.proofs.Common.{ap}
use Rattle.urlpattern.proofs.router.UrlPatternRouter.append.Goals as goal

pub returns-clause-appended : goal.returns-clause-appended
returns-clause-appended g c = (
  c.in-Ok.route,
  c.in-Ok.ensures,
  ap (λ routes. record { routes = routes; head_as_get = c.args.self.now.head_as_get }) c.in-Ok-try_insert.ensures.appended,
)
