use Rattle.urlpattern_laws.proofs.ByCase.{first_without_engine}
use Rattle.urlpattern_laws.proofs.laws.first_ways_are_answered_without_an_engine.Goals as goal

pub returns : goal.returns
returns g c = first_without_engine g.R.RegExp
