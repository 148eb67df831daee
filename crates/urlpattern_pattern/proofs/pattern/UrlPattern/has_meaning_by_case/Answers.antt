use Rattle.std.proofs.Common.{◌≡◌, ◌<◌, ◌≤◌, false, ap, arith, length, refl, subst, take_all, ◌∙◌}
use Rattle.std.proofs.lemmas.List.Elements.{All-more}
use Rattle.std.specs.Prelude.{All}
use Rattle.urlpattern_components.proofs.EightLemmas.{of_each}
use Rattle.urlpattern_components.specs.declared.eight.ComponentName.{ComponentName}
use Rattle.urlpattern_components.specs.declared.eight.ComponentName.TheVariants.{Protocol}
use Rattle.urlpattern_expressions.proofs.SimpleLemmas.{no_longer}
use Rattle.urlpattern_pattern.specs.KeptMeanings.{HasMeaningByCaseIn}
use Rattle.urlpattern_pattern.proofs.pattern.UrlPattern.has_meaning_by_case.Goals as goal

pub returns-then-not-branch : goal.returns-then-not-branch
returns-then-not-branch g c = (
  λ never. absurd (no_longer false refl never),
  λ every. absurd (no_longer c.in_ok-component_has_meaning_by_case.field-0 c.if-not-branch.true (c.in_ok-component_has_meaning_by_case.ensures.1 (every _))),
)

pub loop-name-preserved : goal.loop-name-preserved
loop-name-preserved g c =
    let names = c.all-name-items.result in
    let eight : length names ≡ 8 = ap length c.all-name-items.ensures in
    let within : c.loop-name.name-index < length names = omega arith in
    All-more (λ (name : ComponentName). HasMeaningByCaseIn c.args.self.now name) names c.loop-name.name-index Protocol within c.loop-name.invariant
    (c.in_ok-component_has_meaning_by_case.ensures.0 c.if-not-branch.false)

pub returns : goal.returns
returns g c =
    let names = c.all-name-items.result in
    let eight : length names ≡ 8 = ap length c.all-name-items.ensures in
    let all : length names ≤ c.loop-name.name-index = omega arith in
    let each = λ (name : ComponentName). HasMeaningByCaseIn c.args.self.now name in
    (λ is. of_each each (subst (All each) (take_all c.loop-name.name-index names all ∙ c.all-name-items.ensures) c.loop-name.invariant), λ every. refl)
