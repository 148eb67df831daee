use Rattle.urlpattern_laws.proofs.MatchingLemmas.{covered_matched, partings_matched}
use Rattle.urlpattern_laws.proofs.SameMatchers.{made_matched}
use Rattle.urlpattern_laws.proofs.parts.covered_patterns_match.Goals as goal

pub returns-clause-covered : goal.returns-clause-covered
returns-clause-covered g c = covered_matched g.R.RegExp.answer

pub returns-clause-made : goal.returns-clause-made
returns-clause-made g c = made_matched g.R.RegExp

pub returns-clause-parted : goal.returns-clause-parted
returns-clause-parted g c = partings_matched g.R.RegExp.answer
