use Rattle.std.proofs.Common.{refl, sym, List, ℕ, subst}
use Rattle.std.specs.Str.{chars}
use Rattle.urlpattern_printing.proofs.PrintedTexts.{group-as}
use Rattle.urlpattern_printing.specs.Neighbours.{neighbour}
use Rattle.urlpattern_meaning.specs.Printing.{escaped_pattern}
use Rattle.urlpattern_syntax.specs.Options.{options_view}
use Rattle.urlpattern_syntax.specs.Parts.{part_view}
use Rattle.urlpattern_printing.proofs.printed.PrintedPart.write_group.Goals as goal

pub write_to-requires : goal.write_to-requires
write_to-requires g c =
    let printed = c.args.self.now in
    let part = printed.part.now in
    let same = group-as (options_view printed.options.now) (neighbour printed.previous) (part_view part) c.is_asterisk.result c.args.braces (escaped_pattern (part_view part).prefix) (chars c.as_str.result.now) c.is_asterisk.ensures refl c.as_str.ensures.text in
    subst (λ (text : List ℕ). g.W.Writer.Fits c.args.writer.now text) (sym same) c.requires

pub returns : goal.returns
returns g c =
    let printed = c.args.self.now in
    let part = printed.part.now in
    let same = group-as (options_view printed.options.now) (neighbour printed.previous) (part_view part) c.is_asterisk.result c.args.braces (escaped_pattern (part_view part).prefix) (chars c.as_str.result.now) c.is_asterisk.ensures refl c.as_str.ensures.text in
    subst (λ (text : List ℕ). g.W.Writer.Writes c.args.writer.now text c.write_to.new.writer) same c.write_to.ensures
