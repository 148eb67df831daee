use Rattle.urlpattern_meaning.proofs.FirstResults.{first_agrees, first_one, matcher_first}
use Rattle.urlpattern_meaning.proofs.meaning_laws.matchers_answer_the_first_way.Goals as goal

pub returns-clause-first : goal.returns-clause-first
returns-clause-first g c = λ answer options parts matcher made plain case firsts text result no_feed scalars.
    matcher_first answer (λ regexp engine. Unit {0}) options parts matcher text result made plain case no_feed scalars firsts

pub returns-clause-one : goal.returns-clause-one
returns-clause-one g c = first_one

pub returns-clause-meant : goal.returns-clause-meant
returns-clause-meant g c = first_agrees
