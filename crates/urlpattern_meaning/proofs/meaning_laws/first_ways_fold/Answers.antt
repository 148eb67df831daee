use Rattle.urlpattern_meaning.specs.Ways.{folded_items}
use Rattle.urlpattern_meaning.proofs.FoldedTrees.{first_way_folded, folds_itself}
use Rattle.urlpattern_meaning.proofs.meaning_laws.first_ways_fold.Goals as goal

pub returns : goal.returns
returns c = λ tree text. first_way_folded tree (folded_items tree) (folds_itself tree) text
