use Rattle.urlpattern_laws.proofs.MatchingLemmas.{apart_matched, common_matched}
use Rattle.urlpattern_laws.proofs.parts.overlapping_patterns_match.Goals as goal

pub returns-clause-common : goal.returns-clause-common
returns-clause-common g c = common_matched g.R.RegExp.answer

pub returns-clause-apart : goal.returns-clause-apart
returns-clause-apart g c = apart_matched g.R.RegExp.answer
