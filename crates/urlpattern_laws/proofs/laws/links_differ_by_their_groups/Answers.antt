use Rattle.urlpattern_laws.proofs.LinkedTexts.{links_differ, links_one}
use Rattle.urlpattern_laws.proofs.laws.links_differ_by_their_groups.Goals as goal

pub returns-clause-one : goal.returns-clause-one
returns-clause-one g c = links_one g.R.RegExp.answer

pub returns-clause-differ : goal.returns-clause-differ
returns-clause-differ g c = links_differ g.R.RegExp.answer
