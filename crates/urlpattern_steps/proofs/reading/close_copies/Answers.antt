use Rattle.urlpattern_steps.proofs.StepGroupLemmas.{copies_set}
use Rattle.urlpattern_steps.proofs.reading.close_copies.Goals as goal

pub returns-clause-group : goal.returns-clause-group
returns-clause-group c = λ t.
    copies_set c.args.steps.now.items c.deref.result.now c.args.first c.args.allows_zero c.in-Some.text c.requires c.deref.ensures.value c.in-Some.ensures.text
