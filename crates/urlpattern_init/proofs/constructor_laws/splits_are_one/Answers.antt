use Rattle.urlpattern_init.proofs.SplitExists.{split_exists}
use Rattle.urlpattern_init.proofs.SplitUnique.{splits_one, splits_one_given}
use Rattle.urlpattern_init.specs.SpecialProtocol.{IsSpecialTo}
use Rattle.urlpattern_init.proofs.constructor_laws.splits_are_one.Goals as goal

pub returns-clause-exist : goal.returns-clause-exist
returns-clause-exist g c = split_exists

pub returns-clause-given : goal.returns-clause-given
returns-clause-given g c = splits_one_given

pub returns-clause-computed : goal.returns-clause-computed
returns-clause-computed g c = splits_one (IsSpecialTo g.R.RegExp)
