use Rattle.std.proofs.Common.{◌≡◌, ◌∙◌, ◌+◌, ◌↔◌, [], ◌∷◌, ◌++◌, ap, sym, subst, take, take_all}
use Rattle.std.proofs.lemmas.Bool.{false≢true}
use Rattle.std.proofs.lemmas.List.{take_more}
use Rattle.std.proofs.lemmas.List.Elements.{All-push, Contains-get_or}
use Rattle.std.specs.List.{All, Contains}
use Rattle.std.specs.declared.alloc.Global.{Global}
use Rattle.std.specs.declared.vec.Vec.{Vec}
use Rattle.urlpattern_compare.specs.Candidates.{MeetsAt}
use Rattle.urlpattern_compare.specs.Conditions.{Meets}
use Rattle.urlpattern_compare.specs.declared.condition.Condition.{Condition}
use Rattle.urlpattern_compare.proofs.CandidateLemmas.{at_pushed, at_skipped}
use Rattle.urlpattern_compare.proofs.accepting.conditions_at.Goals as goal
use Rattle.urlpattern_compare.proofs.accepting.conditions_at.Goals.{then-is_on+in_ok-push, else-is_on}

pub loop-condition-preserved : goal.loop-condition-preserved
loop-condition-preserved c =
    let conditions = c.args.conditions.now in
    let component = c.args.component in
    let i = c.loop-condition.condition-index in
    let it = c.condition-item.result in
    let old = c.loop-condition.own.items in
    let front = take i conditions in
    let before = c.loop-condition.invariant in
    let next : take (i + 1) conditions ≡ front ++ it ∷ [] = take_more conditions i it c.loop-condition-test.true ∙ ap (λ x. front ++ x ∷ []) (sym c.condition-item.is) in
    let listed : Contains conditions it = subst (Contains conditions) (sym c.condition-item.is) (Contains-get_or conditions i it c.loop-condition-test.true) in
    elim c.if-is_on.branch [
      | then-is_on+in_ok-push w ↦
          let here = c.is_on.ensures.0 w.if-is_on.true in
          let pushed : c.if-is_on.own.items ≡ old ++ it ∷ [] = ap (λ (v : Vec Condition Global). v.items) w.own-is ∙ w.in_ok-push.ensures.items in
          record {
            meets = λ text. subst (λ l. Meets c.if-is_on.own.items text ↔ MeetsAt l component text) (sym next)
                (subst (λ l. Meets l text ↔ MeetsAt (front ++ it ∷ []) component text) (sym pushed) (at_pushed old front it component text here (before.meets text)));
            within = subst (λ l. All (λ it. (it.component ≡ component) × Contains conditions it) l) (sym pushed)
                (All-push (λ it. (it.component ≡ component) × Contains conditions it) old it before.within (here, listed));
          }
      | else-is_on w ↦
          let same : c.if-is_on.own.items ≡ old = ap (λ (v : Vec Condition Global). v.items) w.own-is in
          record {
            meets = λ text. subst (λ l. Meets c.if-is_on.own.items text ↔ MeetsAt l component text) (sym next)
                (subst (λ l. Meets l text ↔ MeetsAt (front ++ it ∷ []) component text) (sym same)
                (at_skipped old front it component text (λ e. false≢true (sym w.if-is_on.false ∙ c.is_on.ensures.1 e)) (before.meets text)));
            within = subst (λ l. All (λ it. (it.component ≡ component) × Contains conditions it) l) (sym same) before.within;
          }
    ]

pub returns-clause-meets : goal.returns-clause-meets
returns-clause-meets c = λ text.
    subst (λ l. Meets c.loop-condition.own.items text ↔ MeetsAt l c.args.component text) (take_all c.loop-condition.condition-index c.args.conditions.now c.loop-condition-test.false)
    (c.loop-condition.invariant.meets text)
