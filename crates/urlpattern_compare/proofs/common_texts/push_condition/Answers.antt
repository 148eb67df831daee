use Rattle.std.proofs.Common.{◌≡◌, ◌∙◌, Some, None, ap, ap₂, inl, inr, map, subst, sym}
use Rattle.std.proofs.lemmas.Bool.{false≢true}
use Rattle.urlpattern_compare.proofs.TakenLemmas.{none_added, one_added}
use Rattle.urlpattern_compare.specs.Candidates.{TextAt}
use Rattle.urlpattern_compare.specs.CommonTexts.{AreAdded, IsConditionOf, Takes, TakesIn}
use Rattle.urlpattern_compare.specs.Conditions.{accepts}
use Rattle.urlpattern_components.specs.Eight.{at}
use Rattle.urlpattern_compare.proofs.common_texts.push_condition.Goals as goal

pub returns-then-is_same_in : goal.returns-then-is_same_in
returns-then-is_same_in c =
    let Is : TextAt → Type 0 = λ texts. TakesIn (map (λ it. it.now) c.args.all_of.now) c.args.pattern.now texts c.args.component in
    none_added c.args.pattern.now Is c.args.conditions.now.items (λ texts. inl (c.is_same_in.ensures.0 c.if-is_same_in.true))

pub returns-in-None : goal.returns-in-None
returns-in-None c =
    let Is : TextAt → Type 0 = λ texts. TakesIn (map (λ it. it.now) c.args.all_of.now) c.args.pattern.now texts c.args.component in
    let none : at c.args.pattern.now.automata c.args.component ≡ None = sym c.get.ensures ∙ c.in-None.is in
    none_added c.args.pattern.now Is c.args.conditions.now.items (λ texts. inr (subst (λ o. Takes o (texts c.args.component)) (sym none) tt))

pub returns-in_ok-push-in-Some : goal.returns-in_ok-push-in-Some
returns-in_ok-push-in-Some c =
    let component = c.args.component in
    let pattern = c.args.pattern.now in
    let old = c.args.conditions.now.items in
    let Is : TextAt → Type 0 = λ texts. TakesIn (map (λ it. it.now) c.args.all_of.now) pattern texts component in
    let it = c.accepted_by.result in
    let here = c.accepted_by.ensures.component in
    let there = c.accepted_by.ensures.automaton in
    let on : at pattern.automata component ≡ Some c.in-Some.automaton = sym c.get.ensures ∙ c.in-Some.is in
    let condition : IsConditionOf pattern it = ap (λ n. at pattern.automata n) here ∙ on ∙ ap Some (sym there) in
    subst (λ l. AreAdded pattern Is old l) (sym c.in_ok-push-in-Some.ensures.items)
    (one_added pattern Is old it c.accepted_by.ensures.accepted condition (λ texts.
    let same : accepts it.automaton.now (texts it.component) ≡ accepts c.in-Some.automaton (texts component) = ap₂ (λ a n. accepts a (texts n)) there here in (
      λ has. inr (subst (λ o. Takes o (texts component)) (sym on) (sym same ∙ has)),
      λ takes. elim takes [
        | inl alike ↦ absurd (false≢true (sym c.if-is_same_in.false ∙ c.is_same_in.ensures.1 alike))
        | inr has ↦ same ∙ subst (λ o. Takes o (texts component)) on has
      ],
    )))
