use Rattle.std.proofs.Common.{arith, inl, inr}
use Rattle.urlpattern_compare.proofs.MakingLemmas.{plain_large}
use Rattle.urlpattern_compare.specs.Making.{made_view}
use Rattle.urlpattern_compare.specs.MeantTexts.{folded_options, folded_part}
use Rattle.urlpattern_syntax.specs.{Options.options_view, Parts.part_view}
use Rattle.urlpattern_compare.proofs.parts_automaton.PartsAutomaton.add_plain.Goals as goal
use Rattle.urlpattern_compare.proofs.parts_automaton.PartsAutomaton.add_plain.Goals.{then-len-gt-MOST_STATES-via-then-len-gt-MOST_STATES, then-len-gt-MOST_STATES-via-else-len-gt-MOST_STATES+then-self-gt-MOST_STATES}

pub returns-then-len-gt-MOST_STATES-clause-many : goal.returns-then-len-gt-MOST_STATES-clause-many
returns-then-len-gt-MOST_STATES-clause-many c = λ not_added.
    plain_large (folded_options (options_view c.args.options.now)) (folded_part c.args.options.now.ignore_case (part_view c.args.part.now)) (made_view c.args.self.now) c.in_ok-cells.cells.items c.in_ok-cells.ensures
    (elim c.then-len-gt-MOST_STATES.branch [
      | then-len-gt-MOST_STATES-via-then-len-gt-MOST_STATES w ↦ inl (omega arith)
      | then-len-gt-MOST_STATES-via-else-len-gt-MOST_STATES+then-self-gt-MOST_STATES w ↦ inr (omega arith)
    ])
