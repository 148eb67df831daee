use Rattle.std.proofs.Common.{◌≡◌, ◌≢◌, ◌∙◌, ◌<◌, ◌≤◌, ap, arith, bytes_eq, false, get_or, length, rules, subst, sym, take_all}
use Rattle.std.proofs.lemmas.Bool.{false≢true}
use Rattle.std.proofs.lemmas.List.Elements.{All-more}
use Rattle.std.specs.Cmp.Lexicographic.{bytes_decides}
use Rattle.std.specs.Prelude.{All}
use Rattle.urlpattern_components.proofs.EightLemmas.{of_each}
use Rattle.urlpattern_components.specs.declared.eight.ComponentName.{ComponentName}
use Rattle.urlpattern_components.specs.declared.eight.ComponentName.TheVariants.{Protocol}
use Rattle.urlpattern_components.specs.Eight.{name_text}
use Rattle.urlpattern_components.proofs.eight.ComponentName.from_name.Goals as goal

pub loop-component-preserved : goal.loop-component-preserved
loop-component-preserved c =
    let items = c.all-component-items.result in
    let eight : length items ≡ 8 = ap length c.all-component-items.ensures in
    let within : c.loop-component.component-index < length items = omega arith in
    let component = get_or items c.loop-component.component-index Protocol in
    let bytes : bytes_eq c.as_str.result.now c.args.name.now ≡ false = search rules in
    let differs : c.args.name.now ≢ name_text component = λ same. false≢true (sym bytes ∙ (bytes_decides c.as_str.result.now c.args.name.now).1 (c.as_str.ensures ∙ sym same)) in
    All-more (λ (other : ComponentName). c.args.name.now ≢ name_text other) items c.loop-component.component-index Protocol within c.loop-component.invariant differs

pub returns : goal.returns
returns c =
    let items = c.all-component-items.result in
    let eight : length items ≡ 8 = ap length c.all-component-items.ensures in
    let all : length items ≤ c.loop-component.component-index = omega arith in
    let differs = λ (component : ComponentName). c.args.name.now ≢ name_text component in
    of_each differs (subst (All differs) (take_all c.loop-component.component-index items all ∙ c.all-component-items.ensures) c.loop-component.invariant)
