use Rattle.std.specs.Prelude.{not}
use Rattle.urlpattern_matcher.proofs.MatcherTexts.{lacks-searched}
use Rattle.urlpattern_generate.proofs.GroupLemmas.{beside}
use Rattle.urlpattern_generate.proofs.group_copies.CopyTexts.is_one.Goals as goal

pub returns-then-is_long_enough : goal.returns-then-is_long_enough
returns-then-is_long_enough c =
    beside (not c.contains.result) (c.is_long_enough.ensures.0 c.if-is_long_enough.true)
    (lacks-searched c.args.self.mark c.args.text.now c.contains.result c.utf8.text c.contains.ensures.cases)
