use Rattle.urlpattern_matcher.specs.Regexes.{regex_engine}
use Rattle.urlpattern_matcher.proofs.FirstMatchers.{values_follow, values_follow_parts}
use Rattle.urlpattern_engine.proofs.RegexMatchers.{values_first}
use Rattle.urlpattern_engine.proofs.regex_laws.regex_answers_the_first_way.Goals as goal

pub returns : goal.returns
returns c = record { first = values_first; follows = values_follow regex_engine _ values_first; generated = values_follow_parts regex_engine _ values_first }
