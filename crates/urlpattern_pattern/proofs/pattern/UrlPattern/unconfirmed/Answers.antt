use Rattle.std.proofs.Common.{◌≡◌, ◌<◌, ◌≤◌, ◌∙◌, ap, arith, get_or, length, subst, sym, take, take_all}
use Rattle.std.proofs.lemmas.List.Elements.{All-more}
use Rattle.std.specs.Prelude.{All, Some}
use Rattle.urlpattern_components.specs.declared.eight.ComponentName.TheVariants.{Protocol}
use Rattle.urlpattern_components.specs.Eight.{components}
use Rattle.urlpattern_generate.specs.WriteSettings.{given_groups}
use Rattle.urlpattern_pattern.proofs.LinkedLemmas.{all_confirmed, confirmed_if, first_other, other_if}
use Rattle.urlpattern_pattern.specs.LinkedUrls.{IsConfirmed, IsConfirmedBefore, IsOther}
use Rattle.urlpattern_pattern.specs.Patterns.{pattern_view}
use Rattle.urlpattern_generate.specs.UrlsOfTexts.{cow_texts}
use Rattle.urlpattern_pattern.proofs.pattern.UrlPattern.unconfirmed.Goals as goal

pub returns-then-not-branch : goal.returns-then-not-branch
returns-then-not-branch g c =
    let answer = g.R.RegExp.answer in
    let pattern = pattern_view c.args.self.now in
    let parts = c.args.parts.now in
    let groups = given_groups c.args.groups.now in
    let texts = cow_texts c.args.texts.now in
    let names = c.all-name-items.result in
    let i = c.loop-name.name-index in
    let eight : length names ≡ 8 = ap length c.all-name-items.ensures in
    let within : i < length components = omega arith in
    let other = other_if answer pattern parts groups texts c.in_ok-is_confirmed.field-0 (get_or names i Protocol) c.if-not-branch.true c.in_ok-is_confirmed.ensures in
    subst (λ list. IsConfirmedBefore answer pattern parts groups texts (Some (get_or list i Protocol))) (sym c.all-name-items.ensures)
    (first_other answer pattern parts groups texts i within
    (subst (λ list. All (IsConfirmed answer pattern parts groups texts) (take i list)) c.all-name-items.ensures c.loop-name.invariant)
    (subst (λ list. IsOther answer pattern parts groups texts (get_or list i Protocol)) c.all-name-items.ensures other))

pub loop-name-preserved : goal.loop-name-preserved
loop-name-preserved g c =
    let answer = g.R.RegExp.answer in
    let pattern = pattern_view c.args.self.now in
    let parts = c.args.parts.now in
    let groups = given_groups c.args.groups.now in
    let texts = cow_texts c.args.texts.now in
    let names = c.all-name-items.result in
    let eight : length names ≡ 8 = ap length c.all-name-items.ensures in
    let within : c.loop-name.name-index < length names = omega arith in
    All-more (IsConfirmed answer pattern parts groups texts) names c.loop-name.name-index Protocol within c.loop-name.invariant
    (confirmed_if answer pattern parts groups texts c.in_ok-is_confirmed.field-0 (get_or names c.loop-name.name-index Protocol) c.if-not-branch.false c.in_ok-is_confirmed.ensures)

pub returns : goal.returns
returns g c =
    let answer = g.R.RegExp.answer in
    let pattern = pattern_view c.args.self.now in
    let parts = c.args.parts.now in
    let groups = given_groups c.args.groups.now in
    let texts = cow_texts c.args.texts.now in
    let names = c.all-name-items.result in
    let eight : length names ≡ 8 = ap length c.all-name-items.ensures in
    let all : length names ≤ c.loop-name.name-index = omega arith in
    all_confirmed answer pattern parts groups texts
    (subst (All (IsConfirmed answer pattern parts groups texts)) (take_all c.loop-name.name-index names all ∙ c.all-name-items.ensures) c.loop-name.invariant)
