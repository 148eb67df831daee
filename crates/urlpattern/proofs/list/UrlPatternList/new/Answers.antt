use Rattle.urlpattern.proofs.FixedLemmas.{indexed-none, templates-none}
use Rattle.urlpattern.proofs.list.UrlPatternList.new.Goals as goal

pub invariant_of-result : goal.invariant_of-result
invariant_of-result g c = (
  indexed-none g.R.RegExp.answer c.new.result.items c.new-2.result c.new.ensures.items c.new-2.ensures,
  templates-none g.R.RegExp.answer c.new.result.items c.new-3.result.items c.new.ensures.items c.new-3.ensures.items,
)
