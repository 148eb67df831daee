use Rattle.std.proofs.Common.{rules}
use Rattle.urlpattern_generate.proofs.CutTexts.{cut_none, cut_some}
use Rattle.urlpattern_generate.proofs.group_copies.split_at_first.Goals as goal

pub returns-clause-cut : goal.returns-clause-cut
returns-clause-cut c = cut_some c.args.mark c.args.text.now c.split_once.result c.utf8.text (search (rules, c.ranges.mark)) c.split_once.ensures.cases

pub returns-clause-none : goal.returns-clause-none
returns-clause-none c = cut_none c.args.mark c.args.text.now c.split_once.result c.utf8.text c.split_once.ensures.cases
