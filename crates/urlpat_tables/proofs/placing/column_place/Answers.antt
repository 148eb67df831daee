use Rattle.std.proofs.Common.{◌≤◌, ℕ, IfSome, List, length, subst}
use Rattle.urlpat_matching.specs.Lines.{longest}
use Rattle.urlpat_tables.proofs.FieldLemmas.{named-placed, numbered-placed}
use Rattle.urlpat_tables.specs.Fields.{IsNamedPlace}
use Rattle.urlpat_tables.proofs.placing.column_place.Goals as goal

pub returns-in-Number : goal.returns-in-Number
returns-in-Number g c =
    numbered-placed c.args.delimiter c.in-Number.number c.args.name (g.In.Read.remaining c.args.input.now) c.args.header.now.items c.numbered_place.result c.in-Number.is c.requires
    c.numbered_place.ensures

pub returns-in-Ok : goal.returns-in-Ok
returns-in-Ok g c =
    named-placed c.args.delimiter c.in-Name.name c.args.name (g.In.Read.remaining c.args.input.now) (g.In.Read.remaining c.read_line.new.input) c.read_line.new.line.items c.named_place.result
    c.in-Name.is c.in-Ok.ensures.kept c.in-Ok.ensures.rest (subst (λ (header : List ℕ). IfSome c.named_place.result (λ place. length header ≤ longest)) c.deref.ensures.value c.named_place.ensures.short)
    (subst (λ (header : List ℕ). IfSome c.named_place.result (IsNamedPlace c.args.delimiter c.in-Name.name.now header)) c.deref.ensures.value c.named_place.ensures.place)
