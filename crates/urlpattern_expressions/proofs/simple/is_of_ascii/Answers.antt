use Rattle.std.proofs.Common.{◌↔◌, All, List, subst}
use Rattle.std.specs.Prelude.{IsTrue}
use Rattle.urlpattern_expressions.specs.SimpleExpressions.{HasAsciiTexts}
use Rattle.urlpattern_expressions.proofs.simple.is_of_ascii.Goals as goal
use Rattle.urlpattern_syntax.specs.Parts.{parts_view}
use Rattle.urlpattern_syntax.specs.declared.parser.Part.{Part}

pub returns-then-has_ascii_delimiter : goal.returns-then-has_ascii_delimiter
returns-then-has_ascii_delimiter c =
    let texts = subst (λ (parts : List Part). IsTrue c.have_ascii_texts.result ↔ All HasAsciiTexts (parts_view parts)) c.deref.ensures.value c.have_ascii_texts.ensures in
    let delimited = c.has_ascii_delimiter.ensures.0 c.if-has_ascii_delimiter.true in
    (λ is. (delimited, texts.0 is), λ plain. texts.1 plain.1)
