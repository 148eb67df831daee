use Rattle.urlpattern_compare.proofs.FrontLemmas.{none_first}
use Rattle.urlpattern_compare.proofs.fronts.front_of.Goals as goal

pub returns-in-None : goal.returns-in-None
returns-in-None c = none_first c.args.parts.now c.in-None.ensures.value
