use Rattle.urlpattern_meaning.proofs.ReadingLaws.{reading_one, refusal_one, reading_or_refusal}
use Rattle.urlpattern_meaning.specs.Laws.{listed}
use Rattle.urlpattern_meaning.proofs.meaning_laws.readings_are_one.Goals as goal

pub returns : goal.returns
returns c = record {
  readings = λ answers text options. reading_one text options (listed answers);
  refusals = λ answers text options. refusal_one text options (listed answers);
  not_both = λ answers text options. reading_or_refusal text options (listed answers);
}
