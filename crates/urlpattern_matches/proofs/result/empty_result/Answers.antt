use Rattle.urlpattern_components.proofs.EightLemmas.{by_name}
use Rattle.urlpattern_matches.proofs.result.empty_result.Goals as goal

pub returns : goal.returns
returns c = by_name _ c.empty.ensures c.empty-2.ensures c.empty-3.ensures c.empty-4.ensures c.empty-5.ensures c.empty-6.ensures c.empty-7.ensures c.empty-8.ensures
