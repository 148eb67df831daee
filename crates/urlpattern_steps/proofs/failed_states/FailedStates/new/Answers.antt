use Rattle.std.proofs.Common.{ap, ◌∙◌, get_or}
use Rattle.std.specs.Str.{chars}
use Rattle.urlpattern_steps.proofs.FailedLemmas.{dead_without, zeros}
use Rattle.urlpattern_steps.proofs.failed_states.FailedStates.new.Goals as goal

pub invariant_of-result : goal.invariant_of-result
invariant_of-result c =
    dead_without (record { ignore_case = c.args.ignore_case; steps = c.args.steps.now; text = chars c.args.text.now }) c.in_ok-vec.field-0.items
    (λ k. ap (λ l. get_or l k 0) (c.in_ok-vec.ensures.items_if_clones_equal (λ y e. e)) ∙ zeros c.if-is_memoizing.count k)
