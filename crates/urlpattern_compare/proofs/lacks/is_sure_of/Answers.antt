use Rattle.std.proofs.Common.{◌∙◌, ◌<◌, ◌≤◌, ap, arith, length, map, refl, subst, take_all}
use Rattle.std.proofs.lemmas.List.Elements.{All-more}
use Rattle.std.specs.List.{All}
use Rattle.urlpattern_compare.specs.CommonTexts.{IsSureIn}
use Rattle.urlpattern_components.proofs.EightLemmas.{of_each}
use Rattle.urlpattern_components.specs.declared.eight.ComponentName.{ComponentName}
use Rattle.urlpattern_components.specs.declared.eight.ComponentName.TheVariants.{Protocol}
use Rattle.urlpattern_compare.proofs.lacks.is_sure_of.Goals as goal

pub loop-component-init : goal.loop-component-init
loop-component-init c = λ k d lt. absurd (omega arith)

pub loop-component-preserved : goal.loop-component-preserved
loop-component-preserved c =
    let names = c.all-component-items.result in
    let i = c.loop-component.component-index in
    let P : ComponentName → Type 0 = IsSureIn (map (λ it. it.now) c.args.all_of.now) c.args.pattern.now in
    let lt : i < length names = omega (arith, ap length c.all-component-items.ensures) in
    All-more P names i Protocol lt c.loop-component.invariant (c.is_sure_in.ensures.0 c.if-not-is_sure_in.false)

pub returns : goal.returns
returns c =
    let names = c.all-component-items.result in
    let i = c.loop-component.component-index in
    let P : ComponentName → Type 0 = IsSureIn (map (λ it. it.now) c.args.all_of.now) c.args.pattern.now in
    let le : length names ≤ i = omega (arith, ap length c.all-component-items.ensures) in
    (λ h. of_each P (subst (All P) (take_all i names le ∙ c.all-component-items.ensures) c.loop-component.invariant), λ sure. refl)
