use Rattle.urlpattern_pattern.proofs.ByTextLemmas.{result_one}
use Rattle.urlpattern_laws.proofs.RegexGroups.{matched_first, regex_premises}
use Rattle.urlpattern_laws.proofs.laws.groups_by_regex_are_of_the_first_way.Goals as goal

pub returns-clause-premises : goal.returns-clause-premises
returns-clause-premises c = λ asked values pattern component text compiled premises. regex_premises _ (pattern component) (compiled.are_compiled component) text premises

pub returns-clause-first : goal.returns-clause-first
returns-clause-first c = matched_first

pub returns-clause-one : goal.returns-clause-one
returns-clause-one c = result_one
