use Rattle.std.proofs.Common.{◌≡◌, ◌∷◌, replicate, true, false}
use Rattle.urlpattern_steps.proofs.suffix_table.row_of_none.Given as goal

abbrev pub invariant-loop : goal.invariant-loop
invariant-loop l = l.row.items ≡ true ∷ replicate l.counter false
