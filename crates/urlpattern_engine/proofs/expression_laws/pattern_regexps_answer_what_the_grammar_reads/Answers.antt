use Rattle.urlpattern_engine.proofs.EngineLaws.{pattern_values_read, regex_values_read}
use Rattle.urlpattern_engine.proofs.expression_laws.pattern_regexps_answer_what_the_grammar_reads.Goals as goal

pub returns-clause-own : goal.returns-clause-own
returns-clause-own c = pattern_values_read

pub returns-clause-regex : goal.returns-clause-regex
returns-clause-regex c = regex_values_read
