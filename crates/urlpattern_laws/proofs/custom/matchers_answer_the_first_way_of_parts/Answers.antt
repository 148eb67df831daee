use Rattle.urlpattern_laws.proofs.CustomLaws.{pattern_matchers_first, regex_matchers_first}
use Rattle.urlpattern_laws.proofs.custom.matchers_answer_the_first_way_of_parts.Goals as goal

pub returns-clause-own : goal.returns-clause-own
returns-clause-own c = pattern_matchers_first

pub returns-clause-regex : goal.returns-clause-regex
returns-clause-regex c = regex_matchers_first
