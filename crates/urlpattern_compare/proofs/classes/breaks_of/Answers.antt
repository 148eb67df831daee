use Rattle.std.proofs.Common.{eqb, subst, take, take_all}
use Rattle.std.proofs.lemmas.List.Elements.{All-more}
use Rattle.std.proofs.lemmas.List.Filters.{dedup_is}
use Rattle.std.specs.List.{All}
use Rattle.urlpattern_compare.proofs.ExitClasses.{breaks_kept, breaks_once}
use Rattle.urlpattern_compare.specs.Exits.{HasBreaks, HasBreaksOf}
use Rattle.urlpattern_compare.specs.declared.parts_automaton.Edge.{Edge}
use Rattle.urlpattern_compare.proofs.classes.breaks_of.Goals as goal

pub loop-own-preserved : goal.loop-own-preserved
loop-own-preserved c =
    let exits = c.args.exits.now in
    let i = c.loop-own.own-index in
    let new = c.add_breaks_of.new.breaks.items in
    let after = c.in_ok-add_breaks_of.ensures in
    All-more (HasBreaksOf new) exits i c.own-item.result c.loop-own-test.true (breaks_kept c.loop-own.breaks.items new (take i exits) after.kept c.loop-own.invariant) (subst (HasBreaksOf new) c.own-item.is (subst (All (λ (edge : Edge). HasBreaks new edge.test)) c.deref.ensures.value after.added))

pub returns : goal.returns
returns c =
    breaks_once c.loop-own.breaks.items c.sort_unstable.new.self.items c.dedup.new.self.items c.args.exits.now c.sort_unstable.ensures.permutation (dedup_is eqb c.sort_unstable.new.self.items c.dedup.new.self.items c.dedup.ensures.filtered) (subst (All (HasBreaksOf c.loop-own.breaks.items)) (take_all c.loop-own.own-index c.args.exits.now c.loop-own-test.false) c.loop-own.invariant)
