use Rattle.urlpattern_generate.proofs.CutTexts.{front_none, front_some}
use Rattle.urlpattern_generate.proofs.group_copies.without_prefix.Goals as goal

pub returns-clause-cut : goal.returns-clause-cut
returns-clause-cut c = front_some c.args.text.now c.args.front.now c.strip_prefix.result c.utf8.front c.strip_prefix.ensures.cases

pub returns-clause-none : goal.returns-clause-none
returns-clause-none c = front_none c.args.text.now c.args.front.now c.strip_prefix.result c.utf8.text c.utf8.front c.strip_prefix.ensures.cases
