use Rattle.std.specs.Str.{chars}
use Rattle.urlpattern.proofs.RouteLemmas.{none-matches}
use Rattle.urlpattern_matches.specs.MatchInput.{pathname_alone}
use Rattle.urlpattern.proofs.router.UrlPatternRouter.at.Goals as goal

pub returns-in_default-clause-routed : goal.returns-in_default-clause-routed
returns-in_default-clause-routed g c = (
  c.is_plain_path.ensures.path c.if-not-is_plain_path.false,
  none-matches g.R.RegExp.answer c.args.self.now.routes (pathname_alone (chars c.args.path.now))
      (c.in_default.ensures.passed (pathname_alone (chars c.args.path.now)) (c.is_plain_path.ensures.hashes c.if-not-is_plain_path.false)),
)

pub at_plain_path-requires-clause-first : goal.at_plain_path-requires-clause-first
at_plain_path-requires-clause-first g c = (
  c.in-Some.ensures.within.1,
  c.in-Some.ensures.passed (pathname_alone (chars c.args.path.now)) (c.is_plain_path.ensures.hashes c.if-not-is_plain_path.false),
)
