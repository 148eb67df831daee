use Rattle.std.proofs.Common.{◌≡◌, ◌||◌, ℕ, ◌<◌, length, get_or, false}
use Rattle.urlpattern_steps.proofs.suffix_table.either.Given as goal

abbrev pub invariant-loop-n : goal.invariant-loop-n
invariant-loop-n l = record {
  count : length l.row.items ≡ l.n;
  bits : (n : ℕ) → n < l.n → get_or l.row.items n false ≡ get_or l.one n false || get_or l.other n false;
}
