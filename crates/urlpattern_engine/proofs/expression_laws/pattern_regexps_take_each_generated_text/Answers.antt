use Rattle.urlpattern_engine.proofs.EngineLaws.{component_takes, matcher_takes}
use Rattle.urlpattern_engine.proofs.expression_laws.pattern_regexps_take_each_generated_text.Goals as goal

pub returns-clause-matcher : goal.returns-clause-matcher
returns-clause-matcher c = matcher_takes

pub returns-clause-component : goal.returns-clause-component
returns-clause-component c = component_takes
