use Rattle.std.proofs.Common.{◌≡◌, ◌∙◌, ◌+◌, [], ◌∷◌, ◌++◌, ap, append_assoc, subst, sym, take, take_all}
use Rattle.std.proofs.lemmas.List.{take_more}
use Rattle.std.specs.Option.{IsSome}
use Rattle.std.specs.Prelude.{IfSome}
use Rattle.urlpattern_compare.specs.Candidates.{AreCandidates, HasManySetsAt, IsInside, IsSplit}
use Rattle.urlpattern_components.specs.declared.eight.ComponentName.{ComponentName}
use Rattle.urlpattern_compare.proofs.CandidateLemmas.{among_wide, candidates_more, either_some, inside_longer, many_among, some_weaker, split_more}
use Rattle.urlpattern_compare.proofs.candidates.split.Goals as goal

pub loop-condition-preserved : goal.loop-condition-preserved
loop-condition-preserved c =
    let wide = c.args.parent.now.conditions.items in
    let refused = c.args.refused.now in
    let i = c.loop-condition.condition-index in
    let it = c.condition-item.result in
    let front = take i refused in
    let old = c.args.candidates.now.items in
    let mid = c.loop-condition.candidates.items in
    let new = c.reject.new.candidates.items in
    let before = c.loop-condition.invariant in
    let found = c.in_ok-found.found in
    let doubt = c.loop-condition.doubt in
    let next : take (i + 1) refused ≡ front ++ it ∷ [] = take_more refused i it c.loop-condition-test.true ∙ ap (λ x. front ++ x ∷ []) (sym c.condition-item.is) in
    let here : c.deref-in-loop-condition.result.now ≡ wide ++ front = c.deref-in-loop-condition.ensures.value ∙ before.conditions in
    let candidates : AreCandidates (wide ++ front) (it ∷ []) mid new = subst (λ l. AreCandidates l (it ∷ []) mid new) here c.in_ok-found.ensures.candidates in
    let divided : IsSplit (wide ++ front) (it ∷ []) (IsSome found) new = subst (λ l. IsSplit l (it ∷ []) (IsSome found) new) here c.in_ok-found.ensures.divided in
    let many : IfSome found (λ component. HasManySetsAt ((wide ++ front) ++ it ∷ []) component c.args.most) =
    subst (λ l. IfSome found (λ component. HasManySetsAt (l ++ it ∷ []) component c.args.most)) here c.in_ok-found.ensures.many in
    let wider : IfSome found (λ component. HasManySetsAt (wide ++ refused) component c.args.most) =
    some_weaker (λ component. HasManySetsAt ((wide ++ front) ++ it ∷ []) component c.args.most) (λ component. HasManySetsAt (wide ++ refused) component c.args.most) found
    (λ component. many_among ((wide ++ front) ++ it ∷ []) (wide ++ refused) component c.args.most (λ one. among_wide wide refused i it one next)) many in
    record {
      conditions = c.in_ok-push.ensures.items ∙ ap (λ l. l ++ it ∷ []) before.conditions ∙ append_assoc wide front (it ∷ []) ∙ ap (λ l. wide ++ l) (sym next);
      candidates = subst (λ l. AreCandidates wide l old new) (sym next) (candidates_more wide front it old mid new before.candidates candidates);
      divided = subst (λ l. IsSplit wide l (IsSome c.or-doubt.result) new) (sym next) (subst (λ o. IsSplit wide (front ++ it ∷ []) (IsSome o) new) (sym c.or-doubt.ensures)
          (split_more wide front it found doubt mid new (λ texts inside. subst (λ l. IsInside l texts) (sym candidates.1) (inside_longer mid candidates.0 texts inside)) before.divided divided));
      many = subst (λ o. IfSome o (λ component. HasManySetsAt (wide ++ refused) component c.args.most)) (sym c.or-doubt.ensures)
          (either_some (λ (component : ComponentName). HasManySetsAt (wide ++ refused) component c.args.most) found doubt wider before.many);
    }

pub returns-clause-candidates : goal.returns-clause-candidates
returns-clause-candidates c =
    subst (λ l. AreCandidates c.args.parent.now.conditions.items l c.args.candidates.now.items c.loop-condition.candidates.items)
    (take_all c.loop-condition.condition-index c.args.refused.now c.loop-condition-test.false) c.loop-condition.invariant.candidates

pub returns-clause-divided : goal.returns-clause-divided
returns-clause-divided c =
    subst (λ l. IsSplit c.args.parent.now.conditions.items l (IsSome c.loop-condition.doubt) c.loop-condition.candidates.items)
    (take_all c.loop-condition.condition-index c.args.refused.now c.loop-condition-test.false) c.loop-condition.invariant.divided
