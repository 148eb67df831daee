use Rattle.urlpattern_printing.proofs.regexp_text.PartRegexp.write_affixed.Goals as goal

pub write_to-requires : goal.write_to-requires
write_to-requires g c = rw c.in-None.is at c.requires

pub returns-in-None : goal.returns-in-None
returns-in-None g c = rw c.in-None.is c.write_to.ensures

pub write_to-requires-in-Optional : goal.write_to-requires-in-Optional
write_to-requires-in-Optional g c = rw c.in-Optional.is at c.requires

pub returns-in-Optional : goal.returns-in-Optional
returns-in-Optional g c = rw c.in-Optional.is c.write_to-in-Optional.ensures

pub write_to-requires-in-ZeroOrMore : goal.write_to-requires-in-ZeroOrMore
write_to-requires-in-ZeroOrMore g c = rw c.in-ZeroOrMore.is at c.requires

pub returns-in-ZeroOrMore : goal.returns-in-ZeroOrMore
returns-in-ZeroOrMore g c = rw c.in-ZeroOrMore.is c.write_to-in-ZeroOrMore.ensures

pub write_to-requires-in-OneOrMore : goal.write_to-requires-in-OneOrMore
write_to-requires-in-OneOrMore g c = rw c.in-OneOrMore.is at c.requires

pub returns-in-OneOrMore : goal.returns-in-OneOrMore
returns-in-OneOrMore g c = rw c.in-OneOrMore.is c.write_to-in-OneOrMore.ensures
