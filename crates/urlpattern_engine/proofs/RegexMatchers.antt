-- Matchers by `regex::Regex` return the first match of their parts.
use Rattle.std.specs.Prelude.{⊤}
use Rattle.urlpattern_matcher.specs.Regexes.{regex_engine}
use Rattle.urlpattern_matcher.specs.FirstWays.{AllReturnAlike, EachReturnsFirst, ValuesReturnFirst}
use Rattle.urlpattern_matcher.proofs.FirstMatchers.{first_alike, made_first}
use Rattle.urlpattern_engine.proofs.RegexWays.{answers_first_of}
use Rattle.urlpattern_meaning.specs.FirstResults.{AcceptedText}

pub values_first : ValuesReturnFirst regex_engine (λ flags. ⊤)
values_first regexp flags regex keeps made = answers_first_of regexp regex made

pub taken_first : EachReturnsFirst regex_engine (λ options flags. AcceptedText (λ regex. ⊤))
taken_first = made_first regex_engine _ (λ regex. ⊤) (λ options flags parts matcher taken. taken.took) (λ options regexp flags regex inner kept taken made took. values_first regexp flags regex tt made)

pub taken_one : AllReturnAlike regex_engine (λ options flags. AcceptedText (λ regex. ⊤))
taken_one = first_alike regex_engine _ taken_first
