use Rattle.urlpattern_engine.proofs.EngineLaws.{pattern_regexp_same}
use Rattle.urlpattern_engine.proofs.expression_laws.pattern_regexps_answer_as_regex_does.Goals as goal

pub returns : goal.returns
returns c = pattern_regexp_same
