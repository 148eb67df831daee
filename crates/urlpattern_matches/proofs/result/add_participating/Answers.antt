use Rattle.urlpattern_matches.proofs.TakenLemmas.{entry-end}
use Rattle.urlpattern_matches.proofs.result.add_participating.Goals as goal

pub returns : goal.returns
returns c = record {
  added = entry-end c.args.component c.loop-name.name-iterator c.loop-name.taken.items _ c.in-None.ensures.steps.0 c.loop-name.invariant.added;
  differ = c.loop-name.invariant.differ;
}
