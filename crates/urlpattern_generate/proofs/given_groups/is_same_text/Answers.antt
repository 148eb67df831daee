use Rattle.urlpattern_generate.proofs.PartTextLemmas.{texts_same, texts_tested}
use Rattle.urlpattern_generate.proofs.given_groups.is_same_text.Goals as goal

pub returns-clause-test : goal.returns-clause-test
returns-clause-test c = texts_tested c.args.text.now c.args.other.now c.eq.result c.utf8.text c.utf8.other c.eq.ensures

pub returns-clause-same : goal.returns-clause-same
returns-clause-same c = texts_same c.args.text.now c.args.other.now c.eq.result c.utf8.text c.utf8.other c.eq.ensures
