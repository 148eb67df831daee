use Rattle.std.proofs.Common.{◌∙◌, ◌<◌, arith, length, sym, true≢false}
use Rattle.urlpattern_compare.proofs.SameParts.{apart_false, views_apart, views_more}
use Rattle.urlpattern_syntax.specs.Parts.{part_view, parts_view}
use Rattle.urlpattern_compare.proofs.equal_parts.are_equal_parts.Goals as goal

pub loop-index-preserved : goal.loop-index-preserved
loop-index-preserved c =
    let within_others : c.loop-index.index < length c.args.others.now = omega (arith, c.if-parts-others.false, c.loop-index-test.true) in
    views_more part_view c.args.parts.now c.args.others.now c.loop-index.index c.index-parts-index.result c.index-others-index.result
    c.loop-index-test.true within_others c.index-parts-index.is c.index-others-index.is c.loop-index.invariant
    (c.is_equal_part.ensures.0 c.if-not-is_equal_part.false)

pub returns-then-not-is_equal_part : goal.returns-then-not-is_equal_part
returns-then-not-is_equal_part c =
    let within_others : c.loop-index.index < length c.args.others.now = omega (arith, c.if-parts-others.false, c.loop-index-test.true) in
    apart_false (parts_view c.args.parts.now) (parts_view c.args.others.now)
    (views_apart part_view c.args.parts.now c.args.others.now c.loop-index.index c.index-parts-index.result c.index-others-index.result
    c.loop-index-test.true within_others c.index-parts-index.is c.index-others-index.is
    (λ same. true≢false (sym (c.is_equal_part.ensures.1 same) ∙ c.if-not-is_equal_part.true)))
