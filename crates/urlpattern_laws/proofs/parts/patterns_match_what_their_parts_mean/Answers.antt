use Rattle.urlpattern_laws.proofs.EngineParts.{pattern_parts_mean, regex_parts_mean}
use Rattle.urlpattern_laws.proofs.parts.patterns_match_what_their_parts_mean.Goals as goal

pub returns-clause-pattern_regexp : goal.returns-clause-pattern_regexp
returns-clause-pattern_regexp c = pattern_parts_mean

pub returns-clause-regex : goal.returns-clause-regex
returns-clause-regex c = regex_parts_mean
