use Rattle.std.proofs.Common.{sym, ◌∙◌}
use Rattle.urlpattern_syntax.proofs.StringTexts.{is_empty-text}
use Rattle.urlpattern_syntax.specs.Text.{text_of}
use Rattle.urlpattern_compile.proofs.CompiledLemmas.{there_and_empty}
use Rattle.urlpattern_compile.proofs.compile.is_some_and_empty.Goals as goal

pub returns-in-Some : goal.returns-in-Some
returns-in-Some c =
    rw c.in-Some.is
    (there_and_empty (text_of c.in-Some.text) c.is_empty.result (c.is_empty.ensures ∙ sym (is_empty-text c.in-Some.text)))
