use Rattle.urlpattern_laws.proofs.CustomLaws.{pattern_matchers_taken, regex_matchers_taken}
use Rattle.urlpattern_laws.proofs.custom.matchers_answer_the_texts_that_parts_take.Goals as goal

pub returns-clause-own : goal.returns-clause-own
returns-clause-own c = pattern_matchers_taken

pub returns-clause-regex : goal.returns-clause-regex
returns-clause-regex c = regex_matchers_taken
