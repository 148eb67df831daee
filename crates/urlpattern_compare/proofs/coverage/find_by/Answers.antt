use Rattle.std.proofs.Common.{◌∙◌, ◌++◌, ◌∷◌, [], ap}
use Rattle.urlpattern_compare.proofs.CoverageLemmas.{found_by}
use Rattle.urlpattern_compare.proofs.coverage.find_by.Goals as goal

pub returns : goal.returns
returns c =
    let first = c.condition.result in
    let second = c.condition-2.result in
    let one_pushed = c.in_ok-push.ensures.items ∙ ap (λ l. l ++ first ∷ []) c.new-conditions.ensures.items in
    found_by c.args.one.now c.args.other.now c.args.is_accepted first second _ c.most_sets-most.result c.in_ok-found.found
    (c.deref.ensures.value ∙ c.in_ok-push-2.ensures.items ∙ ap (λ l. l ++ second ∷ []) one_pushed)
    c.condition.ensures.automaton c.condition.ensures.accepted c.condition-2.ensures.automaton c.condition-2.ensures.accepted c.most_sets-most.ensures c.in_ok-found.ensures
