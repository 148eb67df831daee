use Rattle.urlpattern_printing.proofs.PrintedTexts.{printed_part-fixed, printed_part-group}
use Rattle.urlpattern_printing.specs.Neighbours.{neighbour}
use Rattle.urlpattern_syntax.specs.Options.{options_view}
use Rattle.urlpattern_syntax.specs.Parts.{part_view}
use Rattle.urlpattern_printing.proofs.printed.PrintedPartWritable.write_to.Goals as goal

pub write_fixed_text-requires : goal.write_fixed_text-requires
write_fixed_text-requires g c = rw (printed_part-fixed (options_view c.args.self.now.options.now) (neighbour c.args.self.now.previous) (part_view c.args.self.now.part.now) (neighbour c.args.self.now.next) c.in-FixedText.is) at c.requires

pub returns-in-FixedText : goal.returns-in-FixedText
returns-in-FixedText g c = rw (printed_part-fixed (options_view c.args.self.now.options.now) (neighbour c.args.self.now.previous) (part_view c.args.self.now.part.now) (neighbour c.args.self.now.next) c.in-FixedText.is) c.write_fixed_text.ensures

pub write_group-requires : goal.write_group-requires
write_group-requires g c = rw (printed_part-group (options_view c.args.self.now.options.now) (neighbour c.args.self.now.previous) (part_view c.args.self.now.part.now) (neighbour c.args.self.now.next) c.in_default.not-FixedText, ← c.needs_grouping-braces.ensures) at c.requires

pub returns-in_default : goal.returns-in_default
returns-in_default g c = rw (printed_part-group (options_view c.args.self.now.options.now) (neighbour c.args.self.now.previous) (part_view c.args.self.now.part.now) (neighbour c.args.self.now.next) c.in_default.not-FixedText, ← c.needs_grouping-braces.ensures) c.write_group.ensures
