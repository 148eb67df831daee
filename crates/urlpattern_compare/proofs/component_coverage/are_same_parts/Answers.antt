use Rattle.std.proofs.Common.{◌∙◌, ◌<◌, arith, length, sym, true≢false}
use Rattle.urlpattern_compare.proofs.SameParts.{apart_false, views_apart, views_more}
use Rattle.urlpattern_compare.specs.Comparing.{unnamed, unnamed_view}
use Rattle.urlpattern_compare.proofs.component_coverage.are_same_parts.Goals as goal

pub loop-index-preserved : goal.loop-index-preserved
loop-index-preserved c =
    let within_others : c.loop-index.index < length c.args.others.now = omega (arith, c.if-parts-others.false, c.loop-index-test.true) in
    views_more unnamed_view c.args.parts.now c.args.others.now c.loop-index.index c.index-parts-index.result c.index-others-index.result
    c.loop-index-test.true within_others c.index-parts-index.is c.index-others-index.is c.loop-index.invariant
    (c.is_same_part.ensures.0 c.if-not-is_same_part.false)

pub returns-then-not-is_same_part : goal.returns-then-not-is_same_part
returns-then-not-is_same_part c =
    let within_others : c.loop-index.index < length c.args.others.now = omega (arith, c.if-parts-others.false, c.loop-index-test.true) in
    apart_false (unnamed c.args.parts.now) (unnamed c.args.others.now)
    (views_apart unnamed_view c.args.parts.now c.args.others.now c.loop-index.index c.index-parts-index.result c.index-others-index.result
    c.loop-index-test.true within_others c.index-parts-index.is c.index-others-index.is
    (λ same. true≢false (sym (c.is_same_part.ensures.1 same) ∙ c.if-not-is_same_part.true)))
