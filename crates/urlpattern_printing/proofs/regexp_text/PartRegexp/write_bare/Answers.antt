use Rattle.urlpattern_printing.proofs.RegexpTexts.{bare-repeated, bare-single}
use Rattle.urlpattern_printing.specs.WrittenParts.{matched_text}
use Rattle.urlpattern_printing.proofs.regexp_text.PartRegexp.write_bare.Goals as goal

pub write_to-requires : goal.write_to-requires
write_to-requires g c = rw (← c.as_str-modifier.ensures.text) at (rw (bare-single c.args.self.now.part.now.modifier (matched_text c.args.self.now) c.in-None.is) at c.requires)

pub returns-in-None : goal.returns-in-None
returns-in-None g c = rw (bare-single c.args.self.now.part.now.modifier (matched_text c.args.self.now) c.in-None.is) (rw c.as_str-modifier.ensures.text at c.write_to.ensures)

pub write_to-requires-in-ZeroOrMore : goal.write_to-requires-in-ZeroOrMore
write_to-requires-in-ZeroOrMore g c = rw (← c.as_str-modifier.ensures.text) at (rw (bare-repeated c.args.self.now.part.now.modifier (matched_text c.args.self.now) c.in-ZeroOrMore.is) at c.requires)

pub returns-in-ZeroOrMore : goal.returns-in-ZeroOrMore
returns-in-ZeroOrMore g c = rw (bare-repeated c.args.self.now.part.now.modifier (matched_text c.args.self.now) c.in-ZeroOrMore.is) (rw c.as_str-modifier.ensures.text at c.write_to-in-ZeroOrMore.ensures)
