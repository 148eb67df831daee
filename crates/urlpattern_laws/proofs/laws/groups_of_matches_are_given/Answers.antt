use Rattle.urlpattern_laws.proofs.MatchedTexts.{captures_given, groups_differ, results_given}
use Rattle.urlpattern_laws.proofs.laws.groups_of_matches_are_given.Goals as goal

pub returns-clause-captures : goal.returns-clause-captures
returns-clause-captures g c = captures_given

pub returns-clause-result : goal.returns-clause-result
returns-clause-result g c = results_given

pub returns-clause-differ : goal.returns-clause-differ
returns-clause-differ g c = groups_differ g.R.RegExp
