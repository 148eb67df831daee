use Rattle.std.proofs.Common.{◌≡◌, ◌++◌, ◌∷◌, [], arith, refl, rules, subst}
use Rattle.std.proofs.lemmas.Grind.{common_steps}
use Rattle.urlpattern_compare.proofs.MakingLemmas.{IsMadeSoFar, all_made, none_made, not_added, part_added}
use Rattle.urlpattern_compare.specs.Making.{made_view}
use Rattle.urlpattern_syntax.specs.{Options.options_view, Parts.part_view, Parts.parts_view}
use Rattle.urlpattern_compare.proofs.parts_automaton.make.Goals as goal

pub loop-part-init : goal.loop-part-init
loop-part-init c = none_made (options_view c.args.options.now) (parts_view c.args.parts.now) _ (first_of (search rules, grind (arith, common_steps)))

pub loop-part-preserved : goal.loop-part-preserved
loop-part-preserved c =
    let before = parts_view c.in-Some.before.now in
    let part = part_view c.in-Some.part.now in
    let left = parts_view c.loop-part.left.now in
    let cut : left ≡ before ++ part ∷ [] = grind (arith, common_steps, c.in-Some.ensures.cases) in
    part_added (options_view c.args.options.now) (parts_view c.args.parts.now) left before part _ _ c.loop-part.invariant cut (c.in_ok-add_part.ensures.added c.if-not-branch.false)

pub returns-then-not-branch-clause-many : goal.returns-then-not-branch-clause-many
returns-then-not-branch-clause-many c =
    let before = parts_view c.in-Some.before.now in
    let part = part_view c.in-Some.part.now in
    let left = parts_view c.loop-part.left.now in
    let cut : left ≡ before ++ part ∷ [] = grind (arith, common_steps, c.in-Some.ensures.cases) in
    not_added (options_view c.args.options.now) (parts_view c.args.parts.now) left before part _ c.loop-part.invariant cut (c.in_ok-add_part.ensures.many c.if-not-branch.true)

pub returns-clause-made : goal.returns-clause-made
returns-clause-made c =
    let options = options_view c.args.options.now in
    let parts = parts_view c.args.parts.now in
    let so_far = made_view c.loop-part.automaton in
    let none : parts_view c.loop-part.left.now ≡ [] = grind (arith, common_steps) in
    all_made options parts so_far _ (subst (λ left. IsMadeSoFar options parts left so_far) none c.loop-part.invariant) refl refl
