use Rattle.std.proofs.Common.{subst, take, take_all}
use Rattle.std.proofs.lemmas.List.Elements.{All-more, All-weaker}
use Rattle.std.specs.List.{All, Contains}
use Rattle.urlpattern_compare.proofs.classes.add_marks.Goals as goal

pub loop-c-preserved : goal.loop-c-preserved
loop-c-preserved c =
    let text = c.args.text.now in
    let i = c.loop-c.c-index in
    let old = c.loop-c.marks.items in
    let new = c.add_mark.new.marks.items in
    let after = c.in_ok-add_mark.ensures in
    record {
      kept = λ it has. after.kept it (c.loop-c.invariant.kept it has);
      added = All-more (Contains new) text i c.c-item.result c.loop-c-test.true (All-weaker (Contains old) (Contains new) after.kept (take i text) c.loop-c.invariant.added) (subst (Contains new) c.c-item.is after.added);
    }

pub returns-clause-added : goal.returns-clause-added
returns-clause-added c = subst (All (Contains c.loop-c.marks.items)) (take_all c.loop-c.c-index c.args.text.now c.loop-c-test.false) c.loop-c.invariant.added
