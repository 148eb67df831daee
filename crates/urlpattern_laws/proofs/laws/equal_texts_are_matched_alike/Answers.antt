use Rattle.urlpattern_laws.proofs.InputTexts.{equal_results, equal_tests}
use Rattle.urlpattern_laws.proofs.laws.equal_texts_are_matched_alike.Goals as goal

pub returns-clause-results : goal.returns-clause-results
returns-clause-results g c = equal_results

pub returns-clause-tests : goal.returns-clause-tests
returns-clause-tests g c = equal_tests
