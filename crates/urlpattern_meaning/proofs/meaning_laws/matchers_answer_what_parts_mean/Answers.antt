use Rattle.urlpattern_meaning.proofs.MatcherMeaning.{matcher_agrees, matcher_means}
use Rattle.urlpattern_meaning.proofs.meaning_laws.matchers_answer_what_parts_mean.Goals as goal

pub returns-clause-follows : goal.returns-clause-follows
returns-clause-follows g c = λ answer options parts matcher made plain case follows text result no_feed scalars.
    matcher_means answer (λ regexp engine. Unit {0}) options parts matcher text result made plain case no_feed scalars follows

pub returns-clause-agrees : goal.returns-clause-agrees
returns-clause-agrees g c = λ answer options parts matcher made case agrees text result no_feed scalars.
    matcher_agrees answer (λ regexp engine. Unit {0}) options parts matcher text result made case no_feed scalars agrees
