use Rattle.urlpattern_engine.proofs.AlikeLaws.{expressions_of_regex, own_expressions}
use Rattle.urlpattern_engine.specs.PatternRegexps.{pattern_engine}
use Rattle.urlpattern_laws.proofs.EngineParts.{pattern_parts_mean, regex_parts_mean}
use Rattle.urlpattern_laws.proofs.SameMatchers.{made_matched}
use Rattle.urlpattern_matcher.specs.Regexes.{regex_engine}
use Rattle.urlpattern_route_analysis.proofs.EngineLemmas.{found_decide}
use Rattle.urlpattern_route_analysis.proofs.laws.found_requests_are_matched.Goals as goal

pub returns-clause-pattern_regexp : goal.returns-clause-pattern_regexp
returns-clause-pattern_regexp c = found_decide pattern_engine pattern_parts_mean (made_matched pattern_engine own_expressions)

pub returns-clause-regex : goal.returns-clause-regex
returns-clause-regex c = found_decide regex_engine regex_parts_mean (made_matched regex_engine expressions_of_regex)
