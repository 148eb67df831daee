use Rattle.urlpattern_meaning.proofs.MeaningLaws.{joined_means}
use Rattle.urlpattern_meaning.proofs.meaning_laws.joining_keeps_meaning.Goals as goal

pub returns : goal.returns
returns c = joined_means
