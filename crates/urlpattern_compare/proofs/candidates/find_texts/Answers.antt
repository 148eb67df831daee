use Rattle.std.proofs.Common.{subst}
use Rattle.urlpattern_compare.specs.Candidates.{HasManySetsAt, all_conditions}
use Rattle.urlpattern_compare.proofs.CandidateLemmas.{many_among}
use Rattle.urlpattern_compare.proofs.OpenLemmas.{first_among}
use Rattle.urlpattern_compare.proofs.candidates.find_texts.Goals as goal

pub returns-in-Ok-Err : goal.returns-in-Ok-Err
returns-in-Ok-Err c =
    let first = c.args.first.items in
    let refused = c.args.refused.now in
    let here = subst (λ l. HasManySetsAt l c.in-Ok-Err.component c.args.limits.sets) c.deref.ensures.value (rw c.in-Ok-Err.field-0-is at c.in-Ok-Err.ensures) in
    many_among first (all_conditions first refused) c.in-Ok-Err.component c.args.limits.sets
    (λ it (one, has, component, automaton). (one, first_among first refused one has, component, automaton)) here
