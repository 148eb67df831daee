use Rattle.urlpattern_engine.proofs.AlikeLaws.{expressions_of_regex, own_expressions}
use Rattle.urlpattern_engine.proofs.expression_laws.values_of_one_expression_answer_alike.Goals as goal

pub returns-clause-own : goal.returns-clause-own
returns-clause-own c = own_expressions

pub returns-clause-regex : goal.returns-clause-regex
returns-clause-regex c = expressions_of_regex
