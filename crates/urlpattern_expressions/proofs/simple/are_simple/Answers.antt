use Rattle.std.proofs.Common.{◌+◌, Bool, drop, false, refl}
use Rattle.urlpattern_expressions.proofs.SimpleLemmas.{ends, goes_on, next_part, no_longer}
use Rattle.urlpattern_expressions.proofs.simple.are_simple.Goals as goal
use Rattle.urlpattern_expressions.specs.SimpleExpressions.{HasSimpleExpressionBy}
use Rattle.urlpattern_syntax.specs.Parts.{PartView, part_view, parts_view}

abbrev IsSimple : (ignore_case : Bool) → PartView → Type 0
IsSimple ignore_case part = HasSimpleExpressionBy ignore_case part.kind part.value

pub returns-then-not-branch : goal.returns-then-not-branch
returns-then-not-branch c =
    let next = next_part c.args.parts.now c.loop-part.part-index c.part-item.result c.loop-part-test.true c.part-item.is in
    let no = ends (IsSimple c.args.ignore_case) (part_view c.part-item.result) (parts_view (drop (c.loop-part.part-index + 1) c.args.parts.now)) (parts_view c.args.parts.now) (parts_view (drop c.loop-part.part-index c.args.parts.now)) next c.loop-part.invariant.decides in (
      λ never. absurd (no_longer false refl never),
      λ every. absurd (no (λ simple. no_longer c.in_ok-has_simple_expression.field-0 c.if-not-branch.true (c.in_ok-has_simple_expression.ensures.1 simple)) every),
    )

pub loop-part-preserved : goal.loop-part-preserved
loop-part-preserved c =
    let next = next_part c.args.parts.now c.loop-part.part-index c.part-item.result c.loop-part-test.true c.part-item.is in
    let more = goes_on (IsSimple c.args.ignore_case) (part_view c.part-item.result) (parts_view (drop (c.loop-part.part-index + 1) c.args.parts.now)) (parts_view c.args.parts.now) (parts_view (drop c.loop-part.part-index c.args.parts.now)) next c.loop-part.invariant.decides in
    record { decides = more (c.in_ok-has_simple_expression.ensures.0 c.if-not-branch.false) }
