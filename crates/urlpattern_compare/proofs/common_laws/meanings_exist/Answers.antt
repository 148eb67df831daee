use Rattle.urlpattern_compare.proofs.DependsLemmas.{meanings_exist}
use Rattle.urlpattern_compare.proofs.common_laws.meanings_exist.Goals as goal

pub returns : goal.returns
returns c = meanings_exist
