use Rattle.urlpattern_meaning.proofs.DialectUnique.{trees_are_one}
use Rattle.urlpattern_meaning.proofs.meaning_laws.dialect_trees_are_one.Goals as goal

pub returns : goal.returns
returns c = trees_are_one
