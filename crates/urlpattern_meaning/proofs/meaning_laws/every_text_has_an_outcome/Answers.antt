use Rattle.urlpattern_meaning.specs.Laws.{listed}
use Rattle.urlpattern_syntax.specs.Reading.{encoding_by}
use Rattle.urlpattern_meaning.proofs.OutcomesExist.{outcome_answered, outcome_listed}
use Rattle.urlpattern_meaning.proofs.meaning_laws.every_text_has_an_outcome.Goals as goal

pub returns-clause-listed : goal.returns-clause-listed
returns-clause-listed g c = λ answers text options. outcome_listed text options answers

pub returns-clause-answered : goal.returns-clause-answered
returns-clause-answered g c = λ answers text options. outcome_answered text options (listed answers)

pub returns-clause-called : goal.returns-clause-called
returns-clause-called g c = λ callback text options. outcome_answered text options (encoding_by g.F.Fn callback)
