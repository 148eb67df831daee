use Rattle.urlpat_routes.proofs.comparing.diff.Goals as goal

pub returns-clause-answers : goal.returns-clause-answers
returns-clause-answers g c = λ answered. (c.in-Some.rules, c.in-Some-found.others, c.in-Some.ensures.routes, c.in-Some-found.ensures.routes, c.diff_rules-status.ensures.answers answered)
