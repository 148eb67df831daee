use Rattle.std.proofs.Common.{◌≡◌, ◌<◌, ◌≤◌, List, None, Option, Some, ap, arith, get_or, length, map, subst, sym}
use Rattle.urlpattern_components.specs.Eight.{at}
use Rattle.urlpattern_components.specs.declared.eight.ComponentName.{ComponentName}
use Rattle.urlpattern_components.specs.declared.eight.ComponentName.TheVariants.{Protocol}
use Rattle.urlpattern_route_rules.specs.Patterns.{component_fault, first_some}
use Rattle.urlpattern_route_rules.specs.declared.fault.PatternFault.{PatternFault}
use Rattle.urlpattern_syntax.specs.declared.parts.ComponentParts.{ComponentParts}
use Rattle.urlpattern_route_rules.proofs.PatternLemmas.{first-found, first-more, first-none}
use Rattle.urlpattern_route_rules.proofs.given.pattern_fault.Goals as goal

pub loop-name-preserved : goal.loop-name-preserved
loop-name-preserved c =
    let names = c.all-name-items.result in
    let i = c.loop-name.name-index in
    let name = get_or names i Protocol in
    let of : ComponentName → Option PatternFault = λ one. component_fault one (at c.args.parts.now.components one).parts.items in
    let lt : i < length names = omega (arith, ap length c.all-name-items.ensures) in
    let here = subst (λ (kept : ComponentParts). component_fault name kept.parts.items ≡ None) c.get.ensures (sym c.in-None.ensures) in
    first-more of names i Protocol lt c.loop-name.invariant here

pub returns-in-Some : goal.returns-in-Some
returns-in-Some c =
    let names = c.all-name-items.result in
    let i = c.loop-name.name-index in
    let name = get_or names i Protocol in
    let of : ComponentName → Option PatternFault = λ one. component_fault one (at c.args.parts.now.components one).parts.items in
    let lt : i < length names = omega (arith, ap length c.all-name-items.ensures) in
    let here = subst (λ (kept : ComponentParts). component_fault name kept.parts.items ≡ Some c.in-Some.fault) c.get.ensures (sym c.in-Some.ensures) in
    sym (subst (λ (its : List ComponentName). first_some (map of its) ≡ Some c.in-Some.fault) c.all-name-items.ensures (first-found of names i Protocol c.in-Some.fault lt c.loop-name.invariant here))

pub returns : goal.returns
returns c =
    let names = c.all-name-items.result in
    let i = c.loop-name.name-index in
    let of : ComponentName → Option PatternFault = λ one. component_fault one (at c.args.parts.now.components one).parts.items in
    let past : length names ≤ i = omega (arith, ap length c.all-name-items.ensures) in
    sym (subst (λ (its : List ComponentName). first_some (map of its) ≡ None) c.all-name-items.ensures (first-none of names i past c.loop-name.invariant))
