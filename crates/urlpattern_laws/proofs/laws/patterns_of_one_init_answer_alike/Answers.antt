use Rattle.urlpattern_pattern.proofs.ByTextLemmas.{found_alike}
use Rattle.urlpattern_laws.proofs.laws.patterns_of_one_init_answer_alike.Goals as goal

pub returns : goal.returns
returns g c = found_alike g.R.RegExp.answer g.S.RegExp.answer
