use Rattle.std.proofs.Common.{◌≡◌, ◌∙◌, ◌++◌, ◌∷◌, [], length, map, take, sym, ap, arith, rules, tests}
use Rattle.std.proofs.lemmas.Iterator.{YieldsList-from_slice}
use Rattle.std.proofs.lemmas.Iterator.Consumers.{YieldsList-from_filter, count_from_yields_List}
use Rattle.std.proofs.lemmas.List.{append-nil, length-map, map_push}
use Rattle.std.specs.Prelude.{vec_capacity, vec_len}
use Rattle.std.specs.Str.{chars}
use Rattle.urlpattern_printing.proofs.NameLists.{is_group, names-counted, names-group, names-left, names-more, names-other, names_of}
use Rattle.urlpattern_syntax.specs.Text.{text_of}
use Rattle.urlpattern_printing.proofs.names.generate_name_list.Goals as goal
use Rattle.urlpattern_printing.proofs.names.generate_name_list.Goals.{then-is_group+in_ok-clone, else-is_group}

pub loop-part-init : goal.loop-part-init
loop-part-init c =
    let count = count_from_yields_List c.filter.result c.count-count.result c.count-count.ensures.ran
    (YieldsList-from_filter _ is_group (YieldsList-from_slice c.args.part_list.now cc) c.filter.ensures.closure (λ x r q k. search (rules, tests))) in
    let all = names-counted c.args.part_list.now in
    (ap (λ names. map (λ name. text_of name) names) c.in_ok-names.ensures.items, omega (arith, c.in_ok-names.ensures.capacity))

pub unwrap-requires : goal.unwrap-requires
unwrap-requires c =
    let items = c.loop-part.names.items in
    let len : vec_len c.loop-part.names ≡ length items = search rules in
    let named = sym (length-map items (λ name. text_of name)) ∙ ap (λ names. length names) c.loop-part.invariant.0 in
    let left = names-left c.args.part_list.now c.loop-part.part-index c.part-item.result c.loop-part-test.true c.part-item.is (sym c.is_group.ensures ∙ c.if-is_group.true) in
    c.push.ensures.succeeds (omega (arith, c.loop-part.invariant.1))

pub loop-part-preserved : goal.loop-part-preserved
loop-part-preserved c =
    let list = c.args.part_list.now in
    let part = c.part-item.result in
    let before = names_of (take c.loop-part.part-index list) in
    let more = names-more list c.loop-part.part-index part c.loop-part-test.true c.part-item.is in
    elim c.if-is_group.branch [
      | then-is_group+in_ok-clone w ↦ (
        ap (λ names. map (λ name. text_of name) names.items) w.names-is
            ∙ ap (λ items. map (λ name. text_of name) items) (rw w.unwrap.ensures at w.push.ensures.items)
            ∙ map_push (λ name. text_of name) c.loop-part.names.items w.in_ok-clone.field-0
            ∙ ap (λ names. names ++ text_of w.in_ok-clone.field-0 ∷ []) c.loop-part.invariant.0
            ∙ ap (λ bytes. before ++ chars bytes ∷ []) w.in_ok-clone.ensures.cases
            ∙ ap (λ names. before ++ names) (sym (names-group part (sym c.is_group.ensures ∙ w.if-is_group.true)))
            ∙ sym more,
        omega (arith, c.loop-part.invariant.1, w.push.ensures.capacity, ap (λ names. vec_capacity names) w.names-is),
      )
      | else-is_group w ↦ (
        ap (λ names. map (λ name. text_of name) names.items) w.names-is
            ∙ c.loop-part.invariant.0
            ∙ sym (append-nil before)
            ∙ ap (λ names. before ++ names) (sym (names-other part (sym c.is_group.ensures ∙ w.if-is_group.false)))
            ∙ sym more,
        omega (arith, c.loop-part.invariant.1, ap (λ names. vec_capacity names) w.names-is),
      )
    ]
