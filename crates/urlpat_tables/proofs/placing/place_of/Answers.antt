use Rattle.urlpat_tables.proofs.FieldLemmas.{field-placed, whole-placed}
use Rattle.urlpat_tables.proofs.placing.place_of.Goals as goal

pub returns-in-Some : goal.returns-in-Some
returns-in-Some g c =
    field-placed c.args.asked c.in-Some.field (g.In.Read.remaining c.args.input.now) (g.In.Read.remaining c.field_place.new.input) c.field_place.new.header.items c.field_place.result c.in-Some.is
    c.field_place.ensures

pub returns-in-None : goal.returns-in-None
returns-in-None g c = whole-placed c.args.asked (g.In.Read.remaining c.args.input.now) c.clear.new.self.items c.in-None.is c.clear.ensures.items
