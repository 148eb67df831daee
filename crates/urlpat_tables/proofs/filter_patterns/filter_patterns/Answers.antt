use Rattle.urlpat_tables.proofs.filter_patterns.filter_patterns.Goals as goal

pub returns-then-add_given : goal.returns-then-add_given
returns-then-add_given g c = c.add_given.ensures c.if-add_given.true
