use Rattle.std.proofs.Common.{◌≡◌, ◌≤◌, List, None, Some, arith, length, map, subst, sym}
use Rattle.urlpattern_route_rules.specs.Patterns.{first_some, part_fault}
use Rattle.urlpattern_syntax.specs.declared.parser.Part.{Part}
use Rattle.urlpattern_route_rules.proofs.PatternLemmas.{first-found, first-more, first-none}
use Rattle.urlpattern_route_rules.proofs.given.component_fault.Goals as goal

pub loop-part-preserved : goal.loop-part-preserved
loop-part-preserved c =
    let here = subst (λ (part : Part). part_fault c.args.name part ≡ None) c.part-item.is (sym c.in-None.ensures) in
    first-more (λ part. part_fault c.args.name part) c.deref-part-items.result.now c.loop-part.part-index c.part-item.result c.loop-part-test.true c.loop-part.invariant here

pub returns-in-Some : goal.returns-in-Some
returns-in-Some c =
    let here = subst (λ (part : Part). part_fault c.args.name part ≡ Some c.in-Some.fault) c.part-item.is (sym c.in-Some.ensures) in
    sym (subst (λ (its : List Part). first_some (map (λ part. part_fault c.args.name part) its) ≡ Some c.in-Some.fault) c.deref-part-items.ensures.value
    (first-found (λ part. part_fault c.args.name part) c.deref-part-items.result.now c.loop-part.part-index c.part-item.result c.in-Some.fault c.loop-part-test.true c.loop-part.invariant here))

pub returns : goal.returns
returns c =
    let its = c.deref-part-items.result.now in
    let past : length its ≤ c.loop-part.part-index = omega arith in
    sym (subst (λ (its : List Part). first_some (map (λ part. part_fault c.args.name part) its) ≡ None) c.deref-part-items.ensures.value
    (first-none (λ part. part_fault c.args.name part) its c.loop-part.part-index past c.loop-part.invariant))
