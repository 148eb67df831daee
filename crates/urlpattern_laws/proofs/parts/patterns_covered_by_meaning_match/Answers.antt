use Rattle.urlpattern_laws.proofs.MatchingLemmas.{known_meant, meant_matched}
use Rattle.urlpattern_laws.proofs.parts.patterns_covered_by_meaning_match.Goals as goal

pub returns-clause-covered : goal.returns-clause-covered
returns-clause-covered g c = meant_matched g.R.RegExp.answer

pub returns-clause-known : goal.returns-clause-known
returns-clause-known g c = known_meant
