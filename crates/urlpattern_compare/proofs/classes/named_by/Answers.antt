use Rattle.std.proofs.Common.{[], subst, sym, take, take_all}
use Rattle.std.proofs.lemmas.List.Elements.{All-more, All-nil}
use Rattle.std.specs.List.{All, Contains}
use Rattle.urlpattern_compare.proofs.ExitClasses.{names_kept}
use Rattle.urlpattern_compare.proofs.StateSets.{contains_head}
use Rattle.urlpattern_compare.specs.Exits.{HasNames, HasNamesOf}
use Rattle.urlpattern_compare.specs.declared.parts_automaton.Edge.{Edge}
use Rattle.urlpattern_syntax.specs.Text.{line_feed}
use Rattle.urlpattern_compare.proofs.classes.named_by.Goals as goal

pub loop-own-init : goal.loop-own-init
loop-own-init c = record {
  feed = subst (λ l. Contains l line_feed) (sym c.in_ok-marks.ensures) (contains_head line_feed []);
  named = All-nil (HasNamesOf c.in_ok-marks.marks.items);
}

pub loop-own-preserved : goal.loop-own-preserved
loop-own-preserved c =
    let exits = c.args.exits.now in
    let i = c.loop-own.own-index in
    let new = c.add_named_of.new.marks.items in
    let after = c.in_ok-add_named_of.ensures in
    record {
      feed = after.kept line_feed c.loop-own.invariant.feed;
      named = All-more (HasNamesOf new) exits i c.own-item.result c.loop-own-test.true (names_kept c.loop-own.marks.items new (take i exits) after.kept c.loop-own.invariant.named)
          (subst (HasNamesOf new) c.own-item.is (subst (All (λ (edge : Edge). HasNames c.own-item.result.ignore_case new edge.test)) c.deref.ensures.value after.added));
    }

pub returns-clause-named : goal.returns-clause-named
returns-clause-named c = subst (All (HasNamesOf c.loop-own.marks.items)) (take_all c.loop-own.own-index c.args.exits.now c.loop-own-test.false) c.loop-own.invariant.named
