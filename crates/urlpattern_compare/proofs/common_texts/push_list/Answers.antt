use Rattle.std.proofs.Common.{◌∙◌, ◌++◌, ◌∷◌, [], map, subst, sym}
use Rattle.std.proofs.lemmas.Bool.{false≢true}
use Rattle.urlpattern_compare.proofs.TakenLemmas.{conditions_of, lists_more, lists_skipped}
use Rattle.urlpattern_compare.specs.CommonTexts.{AreLists}
use Rattle.urlpattern_compare.proofs.common_texts.push_list.Goals as goal

pub returns-then-not-is_counted : goal.returns-then-not-is_counted
returns-then-not-is_counted c = λ front are.
    lists_skipped (map (λ it. it.now) c.args.all_of.now) front c.args.is_sure c.args.pattern.now c.args.lists.now.items (λ counted. absurd (false≢true (sym c.if-not-is_counted.true ∙ c.is_counted.ensures.1 counted))) are

pub returns-then-is_apart_from : goal.returns-then-is_apart_from
returns-then-is_apart_from c = λ front are.
    lists_skipped (map (λ it. it.now) c.args.all_of.now) front c.args.is_sure c.args.pattern.now c.args.lists.now.items (λ counted. c.is_apart_from.ensures c.if-is_apart_from.true) are

pub returns : goal.returns
returns c = λ front are.
    let all_of = map (λ it. it.now) c.args.all_of.now in
    let list = c.push_conditions.new.conditions in
    let conditions = conditions_of all_of c.args.pattern.now c.new-conditions.result.items list.items c.new-conditions.ensures.items c.in_ok-push_conditions.ensures in
    subst (λ l. AreLists all_of (front ++ c.args.pattern.now ∷ []) c.args.is_sure l) (sym c.in_ok-push.ensures.items)
    (lists_more all_of front c.args.is_sure c.args.pattern.now c.args.lists.now.items list (c.is_counted.ensures.0 c.if-not-is_counted.false) conditions are)
