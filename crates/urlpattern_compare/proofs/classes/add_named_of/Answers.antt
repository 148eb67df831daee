use Rattle.std.proofs.Common.{ℕ, List, subst, take, take_all}
use Rattle.std.proofs.lemmas.List.Elements.{All-more, All-weaker}
use Rattle.std.specs.List.{All}
use Rattle.urlpattern_compare.proofs.NamedCharacters.{names_within}
use Rattle.urlpattern_compare.specs.Exits.{HasNames}
use Rattle.urlpattern_compare.specs.declared.parts_automaton.Edge.{Edge}
use Rattle.urlpattern_compare.specs.declared.parts_automaton.Test.TheVariants.{Only}
use Rattle.urlpattern_compare.proofs.classes.add_named_of.Goals as goal

-- An edge where a list has none.
abbrev no_edge : Edge
no_edge = record { from = 0; test = Only 0; to = 0 }

pub loop-edge-preserved : goal.loop-edge-preserved
loop-edge-preserved c =
    let edges = c.args.edges.now in
    let i = c.loop-edge.edge-index in
    let old = c.loop-edge.marks.items in
    let new = c.add_named.new.marks.items in
    let after = c.in_ok-add_named.ensures in
    let P : List ℕ → Edge → Type 0 = λ marks edge. HasNames c.args.ignore_case marks edge.test in
    record {
      kept = λ it has. after.kept it (c.loop-edge.invariant.kept it has);
      added = All-more (P new) edges i no_edge c.loop-edge-test.true (All-weaker (P old) (P new) (λ edge has. names_within c.args.ignore_case old new edge.test after.kept has) (take i edges) c.loop-edge.invariant.added) after.added;
    }

pub returns-clause-added : goal.returns-clause-added
returns-clause-added c =
    subst (All (λ (edge : Edge). HasNames c.args.ignore_case c.loop-edge.marks.items edge.test)) (take_all c.loop-edge.edge-index c.args.edges.now c.loop-edge-test.false) c.loop-edge.invariant.added
