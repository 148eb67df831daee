use Rattle.urlpattern_laws.proofs.CommonMatched.{covering_match, found_matched, nothing_left}
use Rattle.urlpattern_laws.proofs.common_texts.common_texts_are_matched.Goals as goal

pub returns-clause-found : goal.returns-clause-found
returns-clause-found g c = found_matched g.R.RegExp.answer

pub returns-clause-nothing : goal.returns-clause-nothing
returns-clause-nothing g c = nothing_left g.R.RegExp.answer

pub returns-clause-covering : goal.returns-clause-covering
returns-clause-covering g c = covering_match g.R.RegExp.answer
