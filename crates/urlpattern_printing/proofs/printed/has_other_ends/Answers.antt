use Rattle.urlpattern_syntax.proofs.StringTexts.{is_empty-text}
use Rattle.urlpattern_printing.proofs.printed.has_other_ends.Goals as goal

pub returns-then-not-is_empty : goal.returns-then-not-is_empty
returns-then-not-is_empty c = rw (is_empty-text c.args.part.now.suffix, ← c.is_empty.ensures, c.if-not-is_empty.true)

pub returns-else-not-is_empty : goal.returns-else-not-is_empty
returns-else-not-is_empty c = rw (is_empty-text c.args.part.now.suffix, ← c.is_empty.ensures, c.if-not-is_empty.false) c.has_other_prefix.ensures
