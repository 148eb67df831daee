use Rattle.std.proofs.Common.{◌∙◌, sym}
use Rattle.urlpattern_syntax.proofs.StringTexts.{is_empty-text, nothing_from_is_empty}
use Rattle.urlpattern_syntax.specs.Text.{text_of}
use Rattle.urlpattern_matcher.proofs.matcher.Matcher.has_no_ends.Goals as goal

pub returns-then-is_empty-clause-prefix : goal.returns-then-is_empty-clause-prefix
returns-then-is_empty-clause-prefix g c = λ _.
    let prefix = c.args.self.now.prefix in
    nothing_from_is_empty (text_of prefix) (is_empty-text prefix ∙ sym c.is_empty.ensures ∙ c.if-is_empty.true)

pub returns-then-is_empty-clause-suffix : goal.returns-then-is_empty-clause-suffix
returns-then-is_empty-clause-suffix g c = λ is_empty.
    let suffix = c.args.self.now.suffix in
    nothing_from_is_empty (text_of suffix) (is_empty-text suffix ∙ sym c.is_empty-then-is_empty.ensures ∙ is_empty)
