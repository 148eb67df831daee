use Rattle.urlpattern_policy_text.proofs.outcome.base_diagnosis.Goals as goal

pub returns-in-Ok-clause-accepted : goal.returns-in-Ok-clause-accepted
returns-in-Ok-clause-accepted c = (c.in-Ok.url, rw c.in-Ok.is at c.in_ok-parsed.ensures.parsed)
