use Rattle.urlpattern_generate.proofs.LinkLaws.{text_same}
use Rattle.urlpattern_generate.proofs.text_laws.matching_is_read_backwards.Goals as goal

pub returns : goal.returns
returns c = text_same
