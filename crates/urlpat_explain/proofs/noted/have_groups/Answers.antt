use Rattle.std.proofs.Common.{◌+◌, ◌∙◌, drop, sym}
use Rattle.urlpat_explain.proofs.NotedLemmas.{groups_found, groups_go_on}
use Rattle.urlpat_explain.proofs.noted.have_groups.Goals as goal
use Rattle.urlpattern_expressions.proofs.SimpleLemmas.{next_part}
use Rattle.urlpattern_syntax.specs.Parts.{part_view, parts_view}

pub returns-then-branch : goal.returns-then-branch
returns-then-branch c =
    let next = next_part c.args.parts.now c.loop-part.part-index c.part-item.result c.loop-part-test.true c.part-item.is in
    sym (c.loop-part.invariant ∙ groups_found (part_view c.part-item.result) (parts_view (drop (c.loop-part.part-index + 1) c.args.parts.now)) _ next (sym c.in_ok-part_has_groups.ensures ∙ c.if-branch.true))

pub loop-part-preserved : goal.loop-part-preserved
loop-part-preserved c =
    let next = next_part c.args.parts.now c.loop-part.part-index c.part-item.result c.loop-part-test.true c.part-item.is in
    c.loop-part.invariant ∙ groups_go_on (part_view c.part-item.result) (parts_view (drop (c.loop-part.part-index + 1) c.args.parts.now)) _ next (sym c.in_ok-part_has_groups.ensures ∙ c.if-branch.false)
