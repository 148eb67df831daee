use Rattle.urlpat_tables.proofs.unreachable.reached.Goals as goal

pub returns-in-Ok-clause-found : goal.returns-in-Ok-clause-found
returns-in-Ok-clause-found g c = (c.in_ok-rules.rules, c.in_ok-rules.ensures.rules, rw c.in-Ok.is at c.reached_of-found.ensures)
