use Rattle.std.proofs.Common.{◌∙◌, inl, inr, map, refl, subst, sym, take}
use Rattle.std.proofs.lemmas.Bool.{false≢true}
use Rattle.std.proofs.lemmas.List.Elements.{Contains-get_or, Contains-push_cases}
use Rattle.std.specs.List.{Contains}
use Rattle.urlpattern_compare.proofs.TakenLemmas.{contains_map, map_more, map_whole}
use Rattle.urlpattern_compare.specs.CommonTexts.{IsSameIn}
use Rattle.urlpattern_compare.specs.Comparing.{AreSame}
use Rattle.urlpattern_compare.specs.declared.common_texts.PatternAutomata.{PatternAutomata}
use Rattle.urlpattern_components.specs.Eight.{at}
use Rattle.urlpattern_compare.proofs.lacks.is_same_in.Goals as goal

pub returns-then-is_same : goal.returns-then-is_same
returns-then-is_same c =
    let one = c.one-item.result in
    let all_of = c.args.all_of.now in
    let i = c.loop-one.one-index in
    let listed : Contains all_of one = subst (Contains all_of) (sym c.one-item.is) (Contains-get_or all_of i one c.loop-one-test.true) in
    let same = subst (λ o. AreSame (at one.now.parts.components c.args.component) o) c.get-own.ensures
    (subst (λ o. AreSame o c.get-own.result.now) c.get.ensures (c.is_same.ensures.0 c.if-is_same.true)) in
    (λ h. (one.now, contains_map (λ it. it.now) all_of one listed, same), λ s. refl)

pub loop-one-preserved : goal.loop-one-preserved
loop-one-preserved c = λ (it, has, same_it).
    let one = c.one-item.result in
    let all_of = c.args.all_of.now in
    let i = c.loop-one.one-index in
    let component = c.args.component in
    let more = map_more (λ it. it.now) all_of i one c.loop-one-test.true c.one-item.is in
    elim (Contains-push_cases (map (λ it. it.now) (take i all_of)) one.now it (subst (λ l. Contains l it) more has)) [
      | inl earlier ↦ c.loop-one.invariant (it, earlier, same_it)
      | inr e ↦
          let here = subst (λ (p : PatternAutomata). AreSame (at p.parts.components component) (at c.args.pattern.now.parts.components component)) (sym e) same_it in
          false≢true (sym c.if-is_same.false ∙ c.is_same.ensures.1
          (subst (λ o. AreSame o c.get-own.result.now) (sym c.get.ensures) (subst (λ o. AreSame (at one.now.parts.components component) o) (sym c.get-own.ensures) here)))
    ]

pub returns : goal.returns
returns c = (
  λ h. absurd (false≢true h),
  λ known. absurd (c.loop-one.invariant
      (subst (λ l. IsSameIn l c.args.pattern.now c.args.component) (sym (map_whole (λ it. it.now) c.args.all_of.now c.loop-one.one-index c.loop-one-test.false)) known)),
)
