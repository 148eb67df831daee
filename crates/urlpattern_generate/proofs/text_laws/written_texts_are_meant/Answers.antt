use Rattle.urlpattern_generate.proofs.LinkLaws.{written_means}
use Rattle.urlpattern_generate.proofs.text_laws.written_texts_are_meant.Goals as goal

pub returns : goal.returns
returns c = written_means
