use Rattle.std.proofs.Common.{map, subst, sym}
use Rattle.std.proofs.lemmas.Result.{IfOk-weaker}
use Rattle.urlpattern_compare.proofs.TakenLemmas.{found_taken}
use Rattle.urlpattern_compare.specs.CommonTexts.{AreLists}
use Rattle.urlpattern_compare.proofs.common_texts.find_taken.Goals as goal

pub returns-then-are_apart_by_fronts : goal.returns-then-are_apart_by_fronts
returns-then-are_apart_by_fronts c = λ texts lines taken.
    c.are_apart_by_fronts.ensures c.if-are_apart_by_fronts.true texts lines taken.taken

pub returns : goal.returns
returns c =
    let all_of = map (λ it. it.now) c.args.all_of.now in
    let none_of = map (λ it. it.now) c.args.none_of.now in
    let are = subst (λ l. AreLists all_of none_of c.args.is_sure l) (sym c.deref.ensures.value) c.in_ok-lists.ensures in
    IfOk-weaker c.find_texts.result _ _
    (λ found is. found_taken all_of none_of c.args.is_sure c.args.limits c.in_ok-first.first.items c.deref.result.now found c.in_ok-first.ensures.on c.in_ok-first.ensures.meant are is)
    c.find_texts.ensures
