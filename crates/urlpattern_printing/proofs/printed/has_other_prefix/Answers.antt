use Rattle.std.proofs.Common.{◌∙◌, sym, ap, not}
use Rattle.urlpattern_syntax.proofs.StringTexts.{is_empty-text}
use Rattle.urlpattern_printing.proofs.PrintedTexts.{bytes_eq-text}
use Rattle.urlpattern_printing.proofs.printed.has_other_prefix.Goals as goal

pub returns-then-not-is_empty : goal.returns-then-not-is_empty
returns-then-not-is_empty c =
    rw (is_empty-text c.args.part.now.prefix, ← c.is_empty.ensures, c.if-not-is_empty.true)
    (c.ne.ensures ∙ ap not (sym (bytes_eq-text c.args.part.now.prefix c.args.options.now.prefix_code_point)))

pub returns-else-not-is_empty : goal.returns-else-not-is_empty
returns-else-not-is_empty c =
    rw (is_empty-text c.args.part.now.prefix, ← c.is_empty.ensures, c.if-not-is_empty.false)
