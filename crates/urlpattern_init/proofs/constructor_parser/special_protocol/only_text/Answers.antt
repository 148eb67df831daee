use Rattle.std.proofs.Common.{rules, sym, ◌∙◌, ◌≡◌}
use Rattle.std.specs.Str.{chars}
use Rattle.urlpattern_matcher.specs.Matchers.{inner_view, matcher_view}
use Rattle.urlpattern_init.proofs.SpecialSchemeLemmas.{literal_only}
use Rattle.urlpattern_meaning.specs.Matching.{Literal}
use Rattle.urlpattern_syntax.proofs.StringTexts.{is_empty-text, nothing_from_is_empty}
use Rattle.urlpattern_syntax.specs.Text.{text_of}
use Rattle.urlpattern_init.proofs.constructor_parser.special_protocol.only_text.Goals as goal

pub returns-in-Literal : goal.returns-in-Literal
returns-in-Literal g c =
    let matcher = c.args.matcher.now in
    let inner : inner_view matcher.inner ≡ Literal (chars c.as_str.result.now) = search rules in
    literal_only g.R.RegExp.answer (matcher_view matcher) (chars c.as_str.result.now) c.if-matcher.false
    (nothing_from_is_empty (text_of matcher.prefix) (is_empty-text matcher.prefix ∙ sym c.is_empty.ensures ∙ c.if-not-is_empty.false))
    (nothing_from_is_empty (text_of matcher.suffix) (is_empty-text matcher.suffix ∙ sym c.is_empty-else-not-is_empty.ensures ∙ c.if-not-is_empty-2.false))
    inner
