use Rattle.urlpattern_laws.proofs.LinkedTexts.{links_of_captures}
use Rattle.urlpattern_laws.proofs.laws.links_of_captures_are_the_texts.Goals as goal

pub returns : goal.returns
returns g c = links_of_captures g.R.RegExp.answer
