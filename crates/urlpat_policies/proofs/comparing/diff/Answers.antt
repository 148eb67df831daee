use Rattle.urlpat_policies.proofs.comparing.diff.Goals as goal

pub returns-clause-answers : goal.returns-clause-answers
returns-clause-answers g c = λ answered. (c.in-Some.found, c.in-Some.ensures, c.print_compared-status.ensures.answers answered)
