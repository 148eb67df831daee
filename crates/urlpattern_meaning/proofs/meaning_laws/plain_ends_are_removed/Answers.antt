use Rattle.urlpattern_meaning.proofs.MeaningLaws.{peeled_means}
use Rattle.urlpattern_meaning.proofs.meaning_laws.plain_ends_are_removed.Goals as goal

pub returns : goal.returns
returns c = peeled_means
