use Rattle.urlpat_matching.proofs.given_pattern.base_of.Goals as goal

pub returns-in-Some-clause-ok : goal.returns-in-Some-clause-ok
returns-in-Some-clause-ok c = rw (← c.as_deref.ensures.value, c.in-Some.is) c.parse_base.ensures.ok

pub returns-in-Some-clause-err : goal.returns-in-Some-clause-err
returns-in-Some-clause-err c = rw (← c.as_deref.ensures.value, c.in-Some.is) c.parse_base.ensures.err
