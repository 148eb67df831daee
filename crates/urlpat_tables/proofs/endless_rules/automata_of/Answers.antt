use Rattle.urlpat_tables.proofs.AutomataLemmas.{automata-made}
use Rattle.urlpat_tables.proofs.endless_rules.automata_of.Goals as goal

pub returns-in-Some : goal.returns-in-Some
returns-in-Some c = automata-made c.args.pattern.now c.in-Some.parts.now c.of.result c.in-Some.ensures.parts c.of.ensures.automata c.of.ensures.parts
