use Rattle.std.proofs.Common.{All, ap, chars, subst, sym, ◌∙◌}
use Rattle.std.proofs.lemmas.Bool.{MatchBool-at_false, MatchBool-at_true}
use Rattle.std.proofs.lemmas.List.{take_all}
use Rattle.std.proofs.lemmas.List.Elements.{All-more}
use Rattle.urlpat_tables.proofs.NeededLemmas.{none-among, one-among}
use Rattle.urlpat_tables.specs.RewriteRules.{LacksText}
use Rattle.urlpattern.specs.Patterns.{pattern_view}
use Rattle.urlpattern_syntax.specs.Parts.{part_view}
use Rattle.urlpattern_syntax.specs.declared.parser.Part.{Part}
use Rattle.urlpat_tables.proofs.needed_groups.needed_among.Goals as goal

pub loop-part-preserved : goal.loop-part-preserved
loop-part-preserved c =
    let Lacks = λ (part : Part). LacksText (pattern_view c.args.from.now) c.args.component (part_view part) in
    All-more (λ (part : Part). ¬ Lacks part) c.args.parts.now c.loop-part.part-index c.part-item.result c.loop-part-test.true c.loop-part.invariant
    (subst (λ (part : Part). ¬ Lacks part) c.part-item.is (MatchBool-at_false (Lacks c.part-item.result) (¬ Lacks c.part-item.result) c.if-lacks_text.false c.lacks_text.ensures))

pub returns-then-lacks_text-clause-needed : goal.returns-then-lacks_text-clause-needed
returns-then-lacks_text-clause-needed c =
    let Lacks = λ (part : Part). LacksText (pattern_view c.args.from.now) c.args.component (part_view part) in
    one-among (pattern_view c.args.from.now) c.args.component c.args.parts.now c.loop-part.part-index c.part-item.result (chars c.as_str.result.now) c.loop-part-test.true
    (ap (λ (part : Part). (part_view part).name) (sym c.part-item.is) ∙ ap chars (sym c.as_str.ensures.value))
    (subst Lacks c.part-item.is (MatchBool-at_true (Lacks c.part-item.result) (¬ Lacks c.part-item.result) c.if-lacks_text.true c.lacks_text.ensures))

pub returns-clause-none : goal.returns-clause-none
returns-clause-none c =
    let Lacks = λ (part : Part). LacksText (pattern_view c.args.from.now) c.args.component (part_view part) in
    none-among (pattern_view c.args.from.now) c.args.component c.args.parts.now
    (subst (All (λ (part : Part). ¬ Lacks part)) (take_all c.loop-part.part-index c.args.parts.now c.loop-part-test.false) c.loop-part.invariant)
