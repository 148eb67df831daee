use Rattle.std.proofs.Common.{List, ap, arith, chars, get_or, length, subst, sym, ℕ, ◌≡◌, ◌<◌, ◌≤◌, ◌∙◌}
use Rattle.std.proofs.lemmas.List.{take_all}
use Rattle.std.proofs.lemmas.List.Elements.{All-more}
use Rattle.std.specs.Prelude.{All}
use Rattle.urlpat_tables.proofs.NeededLemmas.{group-needed, needs-nothing, none-needed}
use Rattle.urlpat_tables.specs.RewriteRules.{NeedsAmong}
use Rattle.urlpattern_components.specs.declared.eight.ComponentName.{ComponentName}
use Rattle.urlpattern_components.specs.declared.eight.ComponentName.TheVariants.{Protocol}
use Rattle.urlpattern_pattern.specs.ComponentTexts.{parts_in}
use Rattle.urlpattern_pattern.specs.Patterns.{pattern_view}
use Rattle.urlpattern_syntax.specs.Parts.{PartView, parts_view}
use Rattle.urlpattern_syntax.specs.Text.{text_of}
use Rattle.urlpat_tables.proofs.needed_groups.needed_group.Goals as goal

pub returns-in_default-clause-nothing : goal.returns-in_default-clause-nothing
returns-in_default-clause-nothing c = none-needed c.args.from.now c.args.to.now (sym c.in_default.ensures.parts)

pub loop-component-preserved : goal.loop-component-preserved
loop-component-preserved c =
    let first = pattern_view c.args.from.now in
    let parts = c.in-Some.parts.now in
    let components = c.all-component-items.result in
    let eight : length components ≡ 8 = ap length c.all-component-items.ensures in
    let within : c.loop-component.component-index < length components = omega arith in
    All-more (λ (component : ComponentName). (name : List ℕ) → ¬ NeedsAmong first component (parts_in parts component) name) components c.loop-component.component-index Protocol within
    c.loop-component.invariant
    (subst (λ (them : List PartView). (name : List ℕ) → ¬ NeedsAmong first (get_or components c.loop-component.component-index Protocol) them name) (ap parts_view (c.deref.ensures.value ∙ ap (λ it. it.parts.items) c.get-of_component.ensures))
    c.in_default-needed_among.ensures.none)

pub returns-in-Some-needed_among-clause-needed : goal.returns-in-Some-needed_among-clause-needed
returns-in-Some-needed_among-clause-needed c =
    let first = pattern_view c.args.from.now in
    let component = get_or c.all-component-items.result c.loop-component.component-index Protocol in
    let parts = c.in-Some.parts.now in
    let name = c.in-Some-needed_among.name.now in
    group-needed c.args.from.now c.args.to.now parts component (text_of c.in_ok-from_str.field-0) (sym c.in-Some.ensures.parts)
    (subst (λ (text : List ℕ). NeedsAmong first component (parts_in parts component) text) (ap chars (sym c.in_ok-from_str.ensures.ok))
    (subst (λ (them : List PartView). NeedsAmong first component them (chars name)) (ap parts_view (c.deref.ensures.value ∙ ap (λ it. it.parts.items) c.get-of_component.ensures))
    c.in-Some-needed_among.ensures.needed))

pub returns-clause-nothing : goal.returns-clause-nothing
returns-clause-nothing c =
    let first = pattern_view c.args.from.now in
    let parts = c.in-Some.parts.now in
    let components = c.all-component-items.result in
    let eight : length components ≡ 8 = ap length c.all-component-items.ensures in
    let past : length components ≤ c.loop-component.component-index = omega arith in
    needs-nothing c.args.from.now c.args.to.now parts (sym c.in-Some.ensures.parts)
    (subst (All (λ (component : ComponentName). (name : List ℕ) → ¬ NeedsAmong first component (parts_in parts component) name))
    (take_all c.loop-component.component-index components past ∙ c.all-component-items.ensures) c.loop-component.invariant)
