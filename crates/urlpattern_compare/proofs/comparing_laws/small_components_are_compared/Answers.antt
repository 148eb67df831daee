use Rattle.urlpattern_compare.proofs.SmallLemmas.{small_compared}
use Rattle.urlpattern_compare.proofs.comparing_laws.small_components_are_compared.Goals as goal

pub returns-clause-compared : goal.returns-clause-compared
returns-clause-compared c = small_compared
