use Rattle.urlpat_policies.proofs.deciding.decide.Goals as goal

pub returns-in-Ok-clause-answers : goal.returns-in-Ok-clause-answers
returns-in-Ok-clause-answers g c = λ answered. (c.in-Ok.policy, c.in-Ok.ensures.policy, c.decide_by-status.ensures.answers answered)
