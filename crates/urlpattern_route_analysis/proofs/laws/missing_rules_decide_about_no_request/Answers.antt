use Rattle.urlpattern_engine.proofs.AlikeLaws.{expressions_of_regex, own_expressions}
use Rattle.urlpattern_engine.specs.PatternRegexps.{pattern_engine}
use Rattle.urlpattern_laws.proofs.EngineParts.{pattern_parts_mean, regex_parts_mean}
use Rattle.urlpattern_laws.proofs.SameMatchers.{made_matched}
use Rattle.urlpattern_matcher.specs.Regexes.{regex_engine}
use Rattle.urlpattern_route_analysis.proofs.EngineLemmas.{missing_decide_none}
use Rattle.urlpattern_route_analysis.proofs.laws.missing_rules_decide_about_no_request.Goals as goal

pub returns-clause-pattern_regexp : goal.returns-clause-pattern_regexp
returns-clause-pattern_regexp c = missing_decide_none pattern_engine pattern_parts_mean (made_matched pattern_engine own_expressions)

pub returns-clause-regex : goal.returns-clause-regex
returns-clause-regex c = missing_decide_none regex_engine regex_parts_mean (made_matched regex_engine expressions_of_regex)
