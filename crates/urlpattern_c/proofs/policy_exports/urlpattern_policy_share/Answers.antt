use Rattle.std.proofs.Common.{◌∙◌}
use Rattle.urlpattern_ffi.specs.declared.status.Status.TheVariants.{Done}
use Rattle.urlpattern_c.proofs.policy_exports.urlpattern_policy_share.Goals as goal

pub returns-in-Ok-clause-answer : goal.returns-in-Ok-clause-answer
returns-in-Ok-clause-answer c = (Done, c.number.ensures, c.put-in-Ok.ensures ∙ (c.in-Ok.ensures ∙ c.take-kept.ensures.taken))
