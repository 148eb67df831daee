use Rattle.urlpattern_engine.proofs.EngineLaws.{taken_first as taken_by_pattern_regexp_first}
use Rattle.urlpattern_engine.proofs.RegexMatchers.{taken_first}
use Rattle.urlpattern_engine.specs.PatternRegexps.{pattern_engine}
use Rattle.urlpattern_laws.proofs.MatchedTexts.{links_of_compiled, links_of_matches}
use Rattle.urlpattern_matcher.proofs.FirstMatchers.{flags_agree}
use Rattle.urlpattern_matcher.specs.Regexes.{regex_engine}
use Rattle.urlpattern_laws.proofs.laws.links_of_matches_are_the_texts.Goals as goal

pub returns-clause-matches : goal.returns-clause-matches
returns-clause-matches g c = links_of_matches g.R.RegExp.answer

pub returns-clause-pattern_regexp : goal.returns-clause-pattern_regexp
returns-clause-pattern_regexp g c = links_of_compiled pattern_engine _ taken_by_pattern_regexp_first (λ options inner took. flags_agree options)

pub returns-clause-regex : goal.returns-clause-regex
returns-clause-regex g c = links_of_compiled regex_engine _ taken_first (λ options inner took. took)
