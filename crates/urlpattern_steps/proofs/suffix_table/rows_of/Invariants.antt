use Rattle.std.proofs.Common.{◌≡◌, ◌++◌, List, length}
use Rattle.std.specs.Str.{chars}
use Rattle.urlpattern_steps.specs.declared.step.Step.{Step}
use Rattle.urlpattern_steps.specs.Table.{AreRows}
use Rattle.urlpattern_steps.proofs.suffix_table.rows_of.Given as goal

abbrev pub invariant-loop-step : goal.invariant-loop-step
invariant-loop-step l = (others : List Step) × (l.steps ≡ l.before ++ others) × AreRows l.ignore_case (chars l.text) others l.rows.items

abbrev pub decreases-loop-step : goal.decreases-loop-step
decreases-loop-step l = length l.before
