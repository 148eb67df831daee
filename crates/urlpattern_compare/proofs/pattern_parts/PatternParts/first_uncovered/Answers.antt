use Rattle.std.proofs.Common.{◌∙◌, ◌+◌, ◌<◌, ◌≤◌, ap, arith, get_or, length, subst, sym, take, take_all}
use Rattle.urlpattern_compare.proofs.PatternPartLemmas.{IsSoFar, so_far_all, so_far_more}
use Rattle.urlpattern_compare.specs.Comparing.{IsComponentCovering}
use Rattle.urlpattern_components.specs.Eight.{at}
use Rattle.urlpattern_components.specs.declared.eight.ComponentName.TheVariants.{Protocol}
use Rattle.urlpattern_compare.proofs.pattern_parts.PatternParts.first_uncovered.Goals as goal

pub loop-name-init : goal.loop-name-init
loop-name-init c = λ k d lt. absurd (omega arith)

pub loop-name-preserved : goal.loop-name-preserved
loop-name-preserved c =
    let pattern = c.args.self.now in
    let asked = c.args.asked.now in
    let names = c.all-name-items.result in
    let i = c.loop-name.name-index in
    let name = get_or names i Protocol in
    let within : i < length names = omega (arith, ap length c.all-name-items.ensures) in
    let covering = c.in_ok-covering.covering in
    let one = subst (λ component. IsComponentCovering component c.get.result.now covering) c.get-component.ensures c.in_ok-covering.ensures in
    let both = subst (λ component. IsComponentCovering (at pattern.components name) component covering) c.get.ensures one in
    subst (IsSoFar pattern asked (take (i + 1) names)) (sym c.or-first.ensures)
    (so_far_more pattern asked names i Protocol c.loop-name.first covering within c.loop-name.invariant both)

pub returns : goal.returns
returns c =
    let pattern = c.args.self.now in
    let asked = c.args.asked.now in
    let names = c.all-name-items.result in
    let all : length names ≤ c.loop-name.name-index = omega (arith, ap length c.all-name-items.ensures) in
    so_far_all pattern asked c.loop-name.first
    (subst (λ list. IsSoFar pattern asked list c.loop-name.first) (take_all c.loop-name.name-index names all ∙ c.all-name-items.ensures) c.loop-name.invariant)
