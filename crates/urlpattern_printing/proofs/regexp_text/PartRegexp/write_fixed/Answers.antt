use Rattle.urlpattern_printing.proofs.RegexpTexts.{fixed-modified}
use Rattle.urlpattern_printing.specs.WrittenParts.{escaped_value}
use Rattle.urlpattern_printing.proofs.regexp_text.PartRegexp.write_fixed.Goals as goal

pub write_to-requires : goal.write_to-requires
write_to-requires g c = rw (← c.value.ensures) at (rw c.in-None.is at c.requires)

pub returns-in-None : goal.returns-in-None
returns-in-None g c = rw (c.in-None.is, ← c.value.ensures) c.write_to.ensures

pub write_to-requires-in_default : goal.write_to-requires-in_default
write_to-requires-in_default g c =
    let fits = rw (fixed-modified c.args.self.now.part.now.modifier (escaped_value c.args.self.now) c.in_default.not-None) at c.requires in
    rw (← c.value-in_default.ensures, ← c.as_str.ensures.text) at fits

pub returns-in_default : goal.returns-in_default
returns-in_default g c =
    rw (fixed-modified c.args.self.now.part.now.modifier (escaped_value c.args.self.now) c.in_default.not-None) (rw (c.value-in_default.ensures, c.as_str.ensures.text) at c.write_to-in_default.ensures)
