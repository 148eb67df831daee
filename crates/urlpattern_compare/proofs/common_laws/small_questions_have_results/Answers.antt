use Rattle.urlpattern_compare.proofs.BoundLemmas.{few_sets, few_texts, small_automata}
use Rattle.urlpattern_compare.proofs.common_laws.small_questions_have_results.Goals as goal

pub returns-clause-automata : goal.returns-clause-automata
returns-clause-automata c = small_automata

pub returns-clause-sets : goal.returns-clause-sets
returns-clause-sets c = few_sets

pub returns-clause-texts : goal.returns-clause-texts
returns-clause-texts c = few_texts
