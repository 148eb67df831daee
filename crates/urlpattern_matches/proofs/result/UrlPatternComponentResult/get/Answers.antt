use Rattle.urlpattern_matches.proofs.MatchGroupLemmas.{group-captured}
use Rattle.urlpattern_matches.proofs.result.UrlPatternComponentResult.get.Goals as goal

pub returns : goal.returns
returns c = group-captured c.args.self.now.groups c.args.name.now c.capture_of.result c.utf8.name c.capture_of.ensures
