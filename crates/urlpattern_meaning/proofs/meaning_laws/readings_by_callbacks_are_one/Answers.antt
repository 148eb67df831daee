use Rattle.urlpattern_meaning.proofs.CallbackLaws.{outcome_one_given_memory}
use Rattle.urlpattern_syntax.specs.Reading.{encoding_by}
use Rattle.urlpattern_meaning.proofs.meaning_laws.readings_by_callbacks_are_one.Goals as goal

pub returns : goal.returns
returns g c = λ callback text options. outcome_one_given_memory text options (encoding_by g.F.Fn callback)
