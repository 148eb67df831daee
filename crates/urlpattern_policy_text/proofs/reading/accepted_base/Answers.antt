use Rattle.urlpattern_policy_text.proofs.reading.accepted_base.Goals as goal

pub returns-in-Some : goal.returns-in-Some
returns-in-Some c = (c.in-Some.diagnosis, rw c.in-Some.is at c.in_ok-found.ensures.rejected)
