use Rattle.std.proofs.Common.{◌∙◌, Some, ap, sym}
use Rattle.urlpattern_generate.specs.Requested.{empty_if}
use Rattle.urlpattern_syntax.proofs.TextLemmas.{chars_nothing}
use Rattle.urlpattern_generate.proofs.missing_captures.empty_if.Goals as goal

pub returns-then-is : goal.returns-then-is
returns-then-is c = ap (λ text. Some text) chars_nothing ∙ ap empty_if (sym c.if-is.true)
