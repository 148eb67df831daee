use Rattle.std.proofs.Common.{IfSome, subst, sym}
use Rattle.urlpat_matching.specs.declared.command.LineFormat.{LineFormat}
use Rattle.urlpat_tables.proofs.FieldLemmas.{IsPlacedIn, member-placed}
use Rattle.urlpat_tables.specs.Fields.{IsFieldPlaced}
use Rattle.urlpat_tables.proofs.placing.field_place.Goals as goal

pub returns-in-Json : goal.returns-in-Json
returns-in-Json g c =
    member-placed c.args.field.format c.args.field.name (g.In.Read.remaining c.args.input.now) c.args.header.now.items c.member_place.result c.in-Json.is c.requires c.member_place.ensures

pub returns-in-Csv : goal.returns-in-Csv
returns-in-Csv g c =
    subst (λ (format : LineFormat). IfSome c.column_place.result (λ place. IsPlacedIn (g.In.Read.remaining c.args.input.now) (g.In.Read.remaining c.column_place.new.input)
    (λ text rest. IsFieldPlaced format c.args.field.name text place c.column_place.new.header.items rest))) (sym c.in-Csv.is) c.column_place.ensures

pub returns-in-Tsv : goal.returns-in-Tsv
returns-in-Tsv g c =
    subst (λ (format : LineFormat). IfSome c.column_place-in-Tsv.result (λ place. IsPlacedIn (g.In.Read.remaining c.args.input.now) (g.In.Read.remaining c.column_place-in-Tsv.new.input)
    (λ text rest. IsFieldPlaced format c.args.field.name text place c.column_place-in-Tsv.new.header.items rest))) (sym c.in-Tsv.is) c.column_place-in-Tsv.ensures
