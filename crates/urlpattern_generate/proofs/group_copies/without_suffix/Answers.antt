use Rattle.urlpattern_generate.proofs.CutTexts.{back_none, back_some}
use Rattle.urlpattern_generate.proofs.group_copies.without_suffix.Goals as goal

pub returns-clause-cut : goal.returns-clause-cut
returns-clause-cut c = back_some c.args.text.now c.args.back.now c.strip_suffix.result c.utf8.text c.strip_suffix.ensures.cases

pub returns-clause-none : goal.returns-clause-none
returns-clause-none c = back_none c.args.text.now c.args.back.now c.strip_suffix.result c.utf8.text c.utf8.back c.strip_suffix.ensures.cases
