use Rattle.std.proofs.Common.{◌≡◌, ◌∙◌, List, Some, ap, subst, sym}
use Rattle.std.specs.Prelude.{IfSome, option_copied, slice_get}
use Rattle.urlpattern.proofs.FixedLemmas.{template-found}
use Rattle.urlpattern.proofs.ListLemmas.{got}
use Rattle.urlpattern.specs.PatternKeys.{IsTemplateAt}
use Rattle.urlpattern_pattern.specs.UrlPatterns.{UrlPattern}
use Rattle.urlpattern.proofs.list.UrlPatternList.template.Goals as goal

pub returns : goal.returns
returns g c =
    let inside = c.self.inside in
    let index = c.args.index in
    let own = c.in_ok-get.field-0.now in
    let (there, same, is_some, found, rest) = c.get.ensures.lookup in
    let at : slice_get inside.templates.items index ≡ Some own =
    ap (λ templates. slice_get templates index) (sym c.deref.ensures.value) ∙ sym (got c.get.result c.deref.result.now index _ same found) ∙ ap option_copied c.in_ok-get.was in
    subst (λ (patterns : List (UrlPattern g.row.R.Denot)). IfSome c.as_ref.result (λ template. IsTemplateAt g.R.RegExp.answer patterns index template.now)) c.self.view_is
    (template-found g.R.RegExp.answer inside.patterns.items inside.templates.items c.self.invariant.1 index c.as_ref.result own c.as_ref.ensures.value at)
