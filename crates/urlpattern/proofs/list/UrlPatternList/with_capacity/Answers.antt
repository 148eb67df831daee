use Rattle.urlpattern.proofs.FixedLemmas.{indexed-none, templates-none}
use Rattle.urlpattern.proofs.list.UrlPatternList.with_capacity.Goals as goal

pub invariant_of-result : goal.invariant_of-result
invariant_of-result g c = (
  indexed-none g.R.RegExp.answer c.in_ok-with_capacity.field-0.items c.new.result c.in_ok-with_capacity.ensures.items c.new.ensures,
  templates-none g.R.RegExp.answer c.in_ok-with_capacity.field-0.items c.new-2.result.items c.in_ok-with_capacity.ensures.items c.new-2.ensures.items,
)
