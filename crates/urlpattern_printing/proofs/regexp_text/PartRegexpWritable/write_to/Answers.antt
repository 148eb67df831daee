use Rattle.std.proofs.Common.{◌∙◌, sym}
use Rattle.urlpattern_printing.proofs.RegexpTexts.{part_regexp-fixed, part_regexp-bare, part_regexp-affixed}
use Rattle.urlpattern_syntax.specs.Options.{options_view}
use Rattle.urlpattern_syntax.specs.Parts.{part_view}
use Rattle.urlpattern_printing.proofs.regexp_text.PartRegexpWritable.write_to.Goals as goal

pub write_fixed-requires : goal.write_fixed-requires
write_fixed-requires g c = rw (part_regexp-fixed (options_view c.args.self.now.options.now) (part_view c.args.self.now.part.now) c.in-FixedText.is) at c.requires

pub returns-in-FixedText : goal.returns-in-FixedText
returns-in-FixedText g c = rw (part_regexp-fixed (options_view c.args.self.now.options.now) (part_view c.args.self.now.part.now) c.in-FixedText.is) c.write_fixed.ensures

pub write_bare-requires : goal.write_bare-requires
write_bare-requires g c = rw (part_regexp-bare (options_view c.args.self.now.options.now) (part_view c.args.self.now.part.now) c.in_default.not-FixedText (sym c.is_bare.ensures ∙ c.if-is_bare.true)) at c.requires

pub returns-in_default : goal.returns-in_default
returns-in_default g c = rw (part_regexp-bare (options_view c.args.self.now.options.now) (part_view c.args.self.now.part.now) c.in_default.not-FixedText (sym c.is_bare.ensures ∙ c.if-is_bare.true)) c.write_bare.ensures

pub write_affixed-requires : goal.write_affixed-requires
write_affixed-requires g c = rw (part_regexp-affixed (options_view c.args.self.now.options.now) (part_view c.args.self.now.part.now) c.in_default-2.not-FixedText (sym c.is_bare.ensures ∙ c.if-is_bare.false)) at c.requires

pub returns-in_default-2 : goal.returns-in_default-2
returns-in_default-2 g c = rw (part_regexp-affixed (options_view c.args.self.now.options.now) (part_view c.args.self.now.part.now) c.in_default-2.not-FixedText (sym c.is_bare.ensures ∙ c.if-is_bare.false)) c.write_affixed.ensures
