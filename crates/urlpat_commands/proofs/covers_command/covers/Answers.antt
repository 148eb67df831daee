use Rattle.urlpat_commands.proofs.covers_command.covers.Goals as goal

pub returns-clause-answers : goal.returns-clause-answers
returns-clause-answers g c = λ answered. (c.in-Some.covering, c.in-Some.ensures.covering, c.print_covering-status.ensures.answers answered)
