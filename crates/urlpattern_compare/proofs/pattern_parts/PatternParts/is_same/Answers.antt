use Rattle.std.proofs.Common.{◌<◌, ◌≤◌, ◌∙◌, ap, arith, get_or, length, refl, subst, sym, take_all, true≢false}
use Rattle.std.proofs.lemmas.List.Elements.{All-more}
use Rattle.std.specs.Prelude.{All}
use Rattle.urlpattern_compare.specs.EqualParts.{AreEqual}
use Rattle.urlpattern_components.proofs.EightLemmas.{of_each}
use Rattle.urlpattern_components.specs.Eight.{at}
use Rattle.urlpattern_components.specs.declared.eight.ComponentName.{ComponentName}
use Rattle.urlpattern_components.specs.declared.eight.ComponentName.TheVariants.{Protocol}
use Rattle.urlpattern_syntax.specs.declared.parts.ComponentParts.{ComponentParts}
use Rattle.urlpattern_compare.proofs.pattern_parts.PatternParts.is_same.Goals as goal

pub returns-then-not-is_equal : goal.returns-then-not-is_equal
returns-then-not-is_equal c =
    let parts = c.args.self.now in
    let others = c.args.other.now in
    let name = get_or c.all-name-items.result c.loop-name.name-index Protocol in (
      λ never. absurd (true≢false (sym never)),
      λ every.
          let one = subst (λ (component : ComponentParts). AreEqual component (at others.components name)) (sym c.get.ensures) (every name) in
          let both = subst (λ (component : ComponentParts). AreEqual c.get.result.now component) (sym c.get-in-loop-name.ensures) one in
          absurd (true≢false (sym (c.is_equal.ensures.1 both) ∙ c.if-not-is_equal.true)),
    )

pub loop-name-preserved : goal.loop-name-preserved
loop-name-preserved c =
    let parts = c.args.self.now in
    let others = c.args.other.now in
    let names = c.all-name-items.result in
    let i = c.loop-name.name-index in
    let within : i < length names = omega (arith, ap length c.all-name-items.ensures) in
    let both = c.is_equal.ensures.0 c.if-not-is_equal.false in
    let one = subst (λ (component : ComponentParts). AreEqual c.get.result.now component) c.get-in-loop-name.ensures both in
    All-more (λ (name : ComponentName). AreEqual (at parts.components name) (at others.components name)) names i Protocol within c.loop-name.invariant
    (subst (λ (component : ComponentParts). AreEqual component (at others.components (get_or names i Protocol))) c.get.ensures one)

pub returns : goal.returns
returns c =
    let names = c.all-name-items.result in
    let all : length names ≤ c.loop-name.name-index = omega (arith, ap length c.all-name-items.ensures) in
    let each = λ (name : ComponentName). AreEqual (at c.args.self.now.components name) (at c.args.other.now.components name) in
    (λ is. of_each each (subst (All each) (take_all c.loop-name.name-index names all ∙ c.all-name-items.ensures) c.loop-name.invariant), λ every. refl)
