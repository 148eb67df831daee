use Rattle.std.proofs.Common.{List, [], ap, arith, get_or, length, map, ◌≡◌, ◌<◌, ◌≤◌, ◌++◌, ◌∙◌}
use Rattle.std.proofs.lemmas.List.{take_all}
use Rattle.std.specs.List.{flat_map}
use Rattle.urlpat_tables.proofs.ListLemmas.{flat-more}
use Rattle.urlpat_tables.specs.RewriteRules.{component_taken, given_taken}
use Rattle.urlpattern.specs.BorrowedMatches.{pattern_captures_view}
use Rattle.urlpattern.specs.Patterns.{pattern_view}
use Rattle.urlpattern.specs.WriteSettings.{given_groups}
use Rattle.urlpattern_components.specs.declared.eight.ComponentName.{ComponentName}
use Rattle.urlpattern_components.specs.declared.eight.ComponentName.TheVariants.{Protocol}
use Rattle.urlpattern_syntax.specs.Text.{text_of}
use Rattle.urlpat_tables.proofs.rewriting.taken_groups.Goals as goal

pub loop-component-init : goal.loop-component-init
loop-component-init c = ap given_groups c.new-groups.ensures.items

pub loop-component-preserved : goal.loop-component-preserved
loop-component-preserved c =
    let first = pattern_view c.args.from.now in
    let second = pattern_view c.args.to.now in
    let result = pattern_captures_view c.args.found.now in
    let components = c.all-component-items.result in
    let eight : length components ≡ 8 = ap length c.all-component-items.ensures in
    let within : c.loop-component.component-index < length components = omega arith in
    let old = given_groups c.loop-component.groups.items in
    flat-more (component_taken first second result) components c.loop-component.component-index Protocol [] old (given_groups c.push_component.new.groups.items) within c.loop-component.invariant
    (c.in_ok-push_component.ensures
    ∙ ap (λ names. old ++ flat_map (given_taken first result (get_or components c.loop-component.component-index Protocol)) (map (λ name. text_of name) names)) (c.deref.ensures.value ∙ ap (λ component. component.group_name_list.items) c.get.ensures))

pub returns : goal.returns
returns c =
    let first = pattern_view c.args.from.now in
    let second = pattern_view c.args.to.now in
    let result = pattern_captures_view c.args.found.now in
    let components = c.all-component-items.result in
    let eight : length components ≡ 8 = ap length c.all-component-items.ensures in
    let past : length components ≤ c.loop-component.component-index = omega arith in
    c.loop-component.invariant
    ∙ ap (λ (them : List ComponentName). flat_map (component_taken first second result) them) (take_all c.loop-component.component-index components past ∙ c.all-component-items.ensures)
