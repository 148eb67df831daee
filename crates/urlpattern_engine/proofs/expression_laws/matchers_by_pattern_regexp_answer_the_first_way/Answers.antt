use Rattle.urlpattern_engine.proofs.EngineLaws.{taken_first, taken_one}
use Rattle.urlpattern_engine.proofs.expression_laws.matchers_by_pattern_regexp_answer_the_first_way.Goals as goal

pub returns-clause-first : goal.returns-clause-first
returns-clause-first c = taken_first

pub returns-clause-one : goal.returns-clause-one
returns-clause-one c = taken_one
