use Rattle.std.proofs.Common.{[], length, map, refl, subst, sym, take}
use Rattle.std.proofs.lemmas.List.Elements.{All-nil}
use Rattle.std.proofs.lemmas.Option.{slice_get_read}
use Rattle.urlpattern_compare.proofs.ApartLemmas.{of_one}
use Rattle.urlpattern_compare.proofs.TakenLemmas.{HasList, IsListed, map_more, map_whole}
use Rattle.urlpattern_compare.specs.CommonTexts.{AreAutomata, AreLists}
use Rattle.urlpattern_compare.proofs.common_texts.lists_of.Goals as goal

pub loop-pattern-init : goal.loop-pattern-init
loop-pattern-init c =
    let all_of = map (λ it. it.now) c.args.all_of.now in
    subst (λ l. AreLists all_of [] c.args.is_sure l) (sym c.new-lists.ensures.items)
    (record { of_patterns = All-nil (IsListed all_of [] c.args.is_sure); of_lists = All-nil (HasList all_of c.args.is_sure []) })

pub push_list-requires-clause-pattern : goal.push_list-requires-clause-pattern
push_list-requires-clause-pattern c =
    let none_of = c.args.none_of.now in
    let i = c.loop-pattern.pattern-index in
    let one = c.pattern-item.result in
    of_one AreAutomata none_of i one (slice_get_read none_of (length none_of) i one refl c.loop-pattern-test.true c.pattern-item.is) c.requires.none_of

pub loop-pattern-preserved : goal.loop-pattern-preserved
loop-pattern-preserved c =
    let all_of = map (λ it. it.now) c.args.all_of.now in
    let none_of = c.args.none_of.now in
    let i = c.loop-pattern.pattern-index in
    let one = c.pattern-item.result in
    subst (λ l. AreLists all_of l c.args.is_sure c.push_list.new.lists.items) (sym (map_more (λ it. it.now) none_of i one c.loop-pattern-test.true c.pattern-item.is))
    (c.in_ok-push_list.ensures (map (λ it. it.now) (take i none_of)) c.loop-pattern.invariant)

pub returns : goal.returns
returns c =
    subst (λ l. AreLists (map (λ it. it.now) c.args.all_of.now) l c.args.is_sure c.loop-pattern.lists.items)
    (map_whole (λ it. it.now) c.args.none_of.now c.loop-pattern.pattern-index c.loop-pattern-test.false) c.loop-pattern.invariant
