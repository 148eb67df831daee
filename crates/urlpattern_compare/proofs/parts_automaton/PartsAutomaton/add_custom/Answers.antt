use Rattle.urlpattern_compare.proofs.MakingLemmas.{shape_given}
use Rattle.urlpattern_compare.specs.Making.{made_view}
use Rattle.urlpattern_expressions.specs.Shapes.{shape}
use Rattle.urlpattern_syntax.specs.Parts.{part_view}
use Rattle.urlpattern_compare.proofs.parts_automaton.PartsAutomaton.add_custom.Goals as goal

pub returns-in-Ok-Some : goal.returns-in-Ok-Some
returns-in-Ok-Some c =
    shape_given (part_view c.args.part.now) (made_view c.args.self.now) _ (shape c.in-Ok-Some.tree) c.add_shape.result (rw c.in-Ok-Some.field-0-is at c.in-Ok-Some.ensures) c.add_shape.ensures
