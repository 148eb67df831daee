use Rattle.urlpattern_policy_text.proofs.JsonLemmas.{gains_fault}
use Rattle.urlpattern_policy_text.proofs.json_reading.accepted_base.Goals as goal

pub returns-in_ok-push-in-Some : goal.returns-in_ok-push-in-Some
returns-in_ok-push-in-Some c = gains_fault c.args.text.now _ _ _ c.in-Some.diagnosis (rw c.in-Some.is at c.in_ok-found.ensures.rejected) c.in_ok-fault-in-Some.ensures c.in_ok-push-in-Some.ensures.items
