use Rattle.std.proofs.Common.{◌∙◌, ◌<◌, ◌≤◌, ap, arith, get_or, inr, length, map, refl, subst, sym, take_all}
use Rattle.std.proofs.lemmas.Bool.{false≢true}
use Rattle.std.proofs.lemmas.List.Elements.{All-more}
use Rattle.std.specs.List.{All}
use Rattle.urlpattern_compare.proofs.CommonLemmas.{lacks_if}
use Rattle.urlpattern_compare.specs.CommonTexts.{IsSureIn, LacksBy}
use Rattle.urlpattern_components.proofs.EightLemmas.{of_each}
use Rattle.urlpattern_components.specs.Eight.{at}
use Rattle.urlpattern_components.specs.declared.eight.ComponentName.{ComponentName}
use Rattle.urlpattern_components.specs.declared.eight.ComponentName.TheVariants.{Protocol}
use Rattle.urlpattern_compare.proofs.lacks.lack_of.Goals as goal

pub loop-component-init : goal.loop-component-init
loop-component-init c = λ k d lt. absurd (omega arith)

pub loop-component-preserved : goal.loop-component-preserved
loop-component-preserved c =
    let names = c.all-component-items.result in
    let i = c.loop-component.component-index in
    let P : ComponentName → Type 0 = IsSureIn (map (λ it. it.now) c.args.all_of.now) c.args.pattern.now in
    let lt : i < length names = omega (arith, ap length c.all-component-items.ensures) in
    All-more P names i Protocol lt c.loop-component.invariant (c.is_sure_in.ensures.0 c.if-not-is_sure_in.false)

pub reason_of-requires : goal.reason_of-requires
reason_of-requires c =
    let pattern = c.args.pattern.now in
    let name = get_or c.all-component-items.result c.loop-component.component-index Protocol in
    let lacks = lacks_if (at pattern.parts.components name) (at pattern.automata name) (c.requires name)
    (λ some. false≢true (sym c.if-not-is_sure_in.true ∙ c.is_sure_in.ensures.1 (inr some))) in
    (lacks.0, subst (λ o. LacksBy o lacks.0) (sym c.get.ensures) lacks.1)

pub returns-then-not-is_sure_in-clause-some : goal.returns-then-not-is_sure_in-clause-some
returns-then-not-is_sure_in-clause-some c = (
  refl,
  (
    λ some. false≢true (sym c.if-not-is_sure_in.true ∙ c.is_sure_in.ensures.1 (inr some)),
    subst (λ o. LacksBy o c.in_ok-reason.reason) c.get.ensures c.in_ok-reason.ensures,
  ),
)

pub returns-clause-none : goal.returns-clause-none
returns-clause-none c =
    let names = c.all-component-items.result in
    let i = c.loop-component.component-index in
    let P : ComponentName → Type 0 = IsSureIn (map (λ it. it.now) c.args.all_of.now) c.args.pattern.now in
    let le : length names ≤ i = omega (arith, ap length c.all-component-items.ensures) in
    of_each P (subst (All P) (take_all i names le ∙ c.all-component-items.ensures) c.loop-component.invariant)
