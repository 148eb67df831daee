use Rattle.urlpattern_pattern.proofs.ByTextLemmas.{finding_by_text, finding_one, has_meaning, input_by_text}
use Rattle.urlpattern_laws.proofs.EngineParts.{pattern_by_engines}
use Rattle.urlpattern_laws.proofs.KeptMeaning.{kept_meaning}
use Rattle.urlpattern_pattern.proofs.MeaningLemmas.{read_once}
use Rattle.urlpattern_laws.proofs.laws.patterns_answer_by_their_texts.Goals as goal

pub returns-clause-by_text : goal.returns-clause-by_text
returns-clause-by_text g c = pattern_by_engines g.R.RegExp

pub returns-clause-found : goal.returns-clause-found
returns-clause-found g c = finding_by_text g.R.RegExp.answer

pub returns-clause-one : goal.returns-clause-one
returns-clause-one g c = finding_one

pub returns-clause-executed : goal.returns-clause-executed
returns-clause-executed g c = λ init asked pattern by input found texts. input_by_text g.R.RegExp.answer init asked pattern by input found texts

pub returns-clause-readings : goal.returns-clause-readings
returns-clause-readings g c = read_once

pub returns-clause-meaning : goal.returns-clause-meaning
returns-clause-meaning g c = has_meaning g.R.RegExp

pub returns-clause-kept : goal.returns-clause-kept
returns-clause-kept g c = kept_meaning g.R.RegExp
