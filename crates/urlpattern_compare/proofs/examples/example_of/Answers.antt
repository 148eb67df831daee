use Rattle.std.proofs.Common.{ap, map, subst, take_all}
use Rattle.urlpattern_compare.proofs.ExampleLemmas.{means_more}
use Rattle.urlpattern_compare.proofs.examples.example_of.Goals as goal
use Rattle.urlpattern_compare.specs.Examples.{IsPartTextAdded}
use Rattle.urlpattern_compare.specs.MeantTexts.{MeansText}
use Rattle.urlpattern_compare.specs.TextSearch.{IsLine}
use Rattle.urlpattern_meaning.specs.Matching.{folded_character}
use Rattle.urlpattern_syntax.specs.{Options.options_view, Parts.part_view, Parts.parts_view}

pub loop-part-init : goal.loop-part-init
loop-part-init c = ap (map (folded_character c.args.options.now.ignore_case)) c.new-text.ensures.items

pub loop-part-preserved : goal.loop-part-preserved
loop-part-preserved c =
    let options = options_view c.args.options.now in
    let item = c.part-item.result in
    let old = c.loop-part.text.items in
    let new = c.add_example.new.text.items in
    let added : IsPartTextAdded options (part_view item) old new = c.in_ok-added.ensures c.if-not-added.false options c.segment_of-segment.ensures in
    means_more options c.args.parts.now c.loop-part.part-index item old new c.loop-part-test.true c.loop-part.invariant
    (subst (λ part. IsPartTextAdded options (part_view part) old new) c.part-item.is added)

pub returns-then-is_line : goal.returns-then-is_line
returns-then-is_line c = record {
  means = subst (λ parts. MeansText (options_view c.args.options.now) (parts_view parts) c.loop-part.text.items) (take_all c.loop-part.part-index c.args.parts.now c.loop-part-test.false) c.loop-part.invariant;
  line = subst IsLine c.deref.ensures.value (c.is_line.ensures c.if-is_line.true);
}
