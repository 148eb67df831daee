use Rattle.urlpattern_matcher.proofs.MatcherTexts.{lacks-searched}
use Rattle.urlpattern_matcher.proofs.matcher.Matcher.passes.Goals as goal

pub returns-in-Some-2 : goal.returns-in-Some-2
returns-in-Some-2 g c =
    rw (c.in-Some-2.is, c.if-self.false) (lacks-searched c.in-Some-2.c c.args.text.now c.contains.result c.utf8.text c.contains.ensures.cases)
