use Rattle.urlpat_routes.proofs.deciding.decide.Goals as goal

pub returns-clause-answers : goal.returns-clause-answers
returns-clause-answers g c = λ answered. (c.in-Some.rules, c.in-Some-url_or_report.url, c.in-Some.ensures.routes, c.in-Some-url_or_report.ensures.url, c.decide_by-status.ensures.answers answered)
