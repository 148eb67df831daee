use Rattle.urlpattern_matcher.proofs.FirstMatchers.{values_follow, values_follow_parts}
use Rattle.urlpattern_engine.specs.PatternRegexps.{pattern_engine}
use Rattle.urlpattern_engine.proofs.EngineLaws.{values_by_flags, values_first}
use Rattle.urlpattern_engine.proofs.expression_laws.pattern_regexps_answer_the_first_way.Goals as goal

pub returns-clause-first : goal.returns-clause-first
returns-clause-first c = values_first

pub returns-clause-follows : goal.returns-clause-follows
returns-clause-follows c = values_follow pattern_engine _ values_first

pub returns-clause-generated : goal.returns-clause-generated
returns-clause-generated c = values_follow_parts pattern_engine _ values_first

pub returns-clause-by_flags : goal.returns-clause-by_flags
returns-clause-by_flags c = values_by_flags
