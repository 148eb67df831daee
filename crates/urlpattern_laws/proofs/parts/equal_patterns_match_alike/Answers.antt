use Rattle.urlpattern_matcher.specs.Regexes.{regex_engine}
use Rattle.urlpattern_engine.proofs.AlikeLaws.{expressions_of_regex, own_expressions}
use Rattle.urlpattern_engine.specs.PatternRegexps.{pattern_engine}
use Rattle.urlpattern_laws.proofs.SameMatchers.{equal_matched}
use Rattle.urlpattern_laws.proofs.parts.equal_patterns_match_alike.Goals as goal

pub returns-clause-made : goal.returns-clause-made
returns-clause-made g c = equal_matched g.R.RegExp

pub returns-clause-pattern_regexp : goal.returns-clause-pattern_regexp
returns-clause-pattern_regexp g c = equal_matched pattern_engine own_expressions

pub returns-clause-regex : goal.returns-clause-regex
returns-clause-regex g c = equal_matched regex_engine expressions_of_regex
