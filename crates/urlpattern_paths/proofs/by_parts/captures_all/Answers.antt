use Rattle.std.proofs.Common.{◌≡◌, ◌∙◌, None, ap, rules, sym, true}
use Rattle.urlpattern_matcher.specs.Components.{component_view}
use Rattle.urlpattern_matcher.specs.Matchers.{inner_view}
use Rattle.urlpattern_paths.proofs.PathAloneLemmas.{captures-all}
use Rattle.urlpattern_syntax.proofs.StringTexts.{is_empty-text, nothing_from_is_empty}
use Rattle.urlpattern_syntax.specs.Text.{text_of}
use Rattle.urlpattern_paths.proofs.by_parts.captures_all.Goals as goal

pub returns-then-is_empty : goal.returns-then-is_empty
returns-then-is_empty g c = λ is_empty.
    let matcher = c.args.component.now.matcher in
    let unfiltered : c.in-SingleCapture-None-true.filter ≡ None = search rules in
    let may_be_empty : c.in-SingleCapture-None-true.allow_empty ≡ true = search rules in
    captures-all g.R.RegExp.answer (component_view c.args.component.now).matcher
    (nothing_from_is_empty (text_of matcher.prefix) (is_empty-text matcher.prefix ∙ sym c.is_empty.ensures ∙ c.if-is_empty.true))
    (nothing_from_is_empty (text_of matcher.suffix) (is_empty-text matcher.suffix ∙ sym c.is_empty-then-is_empty.ensures ∙ is_empty))
    (rw (unfiltered, may_be_empty) at (ap inner_view c.in-SingleCapture-None-true.is))
