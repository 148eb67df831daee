use Rattle.urlpattern_laws.proofs.CustomLaws.{pattern_components_first, regex_components_first}
use Rattle.urlpattern_laws.proofs.custom.components_answer_the_first_way_of_parts.Goals as goal

pub returns-clause-own : goal.returns-clause-own
returns-clause-own c = pattern_components_first

pub returns-clause-regex : goal.returns-clause-regex
returns-clause-regex c = regex_components_first
