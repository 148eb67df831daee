use Rattle.urlpattern_engine.specs.PatternRegexps.{pattern_result}
use Rattle.urlpattern_engine.proofs.pattern_regexp.PatternRegexpRegExp.matches.Goals as goal

pub returns : goal.returns
unfolding pattern_result
returns c = c.matches.ensures
