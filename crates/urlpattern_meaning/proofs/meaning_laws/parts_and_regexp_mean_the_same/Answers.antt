use Rattle.urlpattern_meaning.proofs.OneMeaning.{agrees_follows, each_tree_means, follows_agrees, one_meaning}
use Rattle.urlpattern_meaning.proofs.meaning_laws.parts_and_regexp_mean_the_same.Goals as goal

pub returns-clause-tree : goal.returns-clause-tree
returns-clause-tree c = one_meaning

pub returns-clause-means : goal.returns-clause-means
returns-clause-means c = each_tree_means

pub returns-clause-engines : goal.returns-clause-engines
returns-clause-engines c = λ options parts answer h. (follows_agrees options parts h answer, agrees_follows options parts h answer)
