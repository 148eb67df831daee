use Rattle.std.proofs.Common.{ap, not}
use Rattle.urlpattern_printing.proofs.RegexpTexts.{not-fixed}
use Rattle.urlpattern_printing.proofs.printed.continues_name.Goals as goal

pub returns-in-FixedText : goal.returns-in-FixedText
returns-in-FixedText c =
    rw (← c.is_bare.ensures, c.if-is_bare.true, c.in-FixedText.is) (rw c.deref.ensures at c.begins_with_name_part.ensures)

pub returns-in_default : goal.returns-in_default
returns-in_default c =
    rw (← c.is_bare.ensures, c.if-is_bare.true, not-fixed c.args.part.now.kind c.in_default.not-FixedText) (ap not c.has_custom_name.ensures)
