use Rattle.std.proofs.Common.{◌≡◌, ◌∙◌, ◌+◌, ◌<◌, ◌≤◌, ap, arith, get_or, length, map, subst, take, take_all}
use Rattle.std.proofs.lemmas.List.Elements.{All-more}
use Rattle.std.specs.List.{All}
use Rattle.urlpattern_compare.proofs.TakenLemmas.{added_more, added_same, all_more_back, none_added}
use Rattle.urlpattern_compare.specs.Candidates.{TextAt}
use Rattle.urlpattern_compare.specs.CommonTexts.{TakesEach, TakesIn}
use Rattle.urlpattern_components.proofs.EightLemmas.{of_each}
use Rattle.urlpattern_components.specs.Eight.{components}
use Rattle.urlpattern_components.specs.declared.eight.ComponentName.{ComponentName}
use Rattle.urlpattern_components.specs.declared.eight.ComponentName.TheVariants.{Protocol}
use Rattle.urlpattern_compare.proofs.common_texts.push_conditions.Goals as goal

pub loop-component-init : goal.loop-component-init
loop-component-init c =
    none_added c.args.pattern.now (λ texts. All (TakesIn (map (λ it. it.now) c.args.all_of.now) c.args.pattern.now texts) (take 0 c.all-component-items.result)) c.args.conditions.now.items
    (λ texts. λ k d lt. absurd (omega arith))

pub loop-component-preserved : goal.loop-component-preserved
loop-component-preserved c =
    let pattern = c.args.pattern.now in
    let names = c.all-component-items.result in
    let i = c.loop-component.component-index in
    let name = get_or names i Protocol in
    let P : TextAt → ComponentName → Type 0 = TakesIn (map (λ it. it.now) c.args.all_of.now) pattern in
    let lt : i < length names = omega (arith, ap length c.all-component-items.ensures) in
    added_more pattern (λ texts. All (P texts) (take i names)) (λ texts. P texts name) (λ texts. All (P texts) (take (i + 1) names)) c.args.conditions.now.items c.loop-component.conditions.items
    c.push_condition.new.conditions.items c.loop-component.invariant c.in_ok-push_condition.ensures
    (λ texts. (λ both. All-more (P texts) names i Protocol lt both.0 both.1, λ all. all_more_back (P texts) names i Protocol lt all))

pub returns : goal.returns
returns c =
    let pattern = c.args.pattern.now in
    let names = c.all-component-items.result in
    let i = c.loop-component.component-index in
    let P : TextAt → ComponentName → Type 0 = TakesIn (map (λ it. it.now) c.args.all_of.now) pattern in
    let le : length names ≤ i = omega (arith, ap length c.all-component-items.ensures) in
    let whole : take i names ≡ components = take_all i names le ∙ c.all-component-items.ensures in
    added_same pattern (λ texts. All (P texts) (take i names)) (TakesEach (map (λ it. it.now) c.args.all_of.now) pattern) c.args.conditions.now.items c.loop-component.conditions.items c.loop-component.invariant
    (λ texts. (λ all. of_each (P texts) (subst (All (P texts)) whole all), λ each. λ k d lt. each (get_or (take i names) k d)))
