use Rattle.std.proofs.Common.{◌≡◌, ◌++◌}
use Rattle.urlpattern_ffi_tables.proofs.ReachLemmas.{Zipped}
use Rattle.urlpattern_ffi_tables.proofs.reaches.text_of_each.Given as goal

-- The texts of those that were taken, and those that remain.
abbrev pub invariant-loop-reach : goal.invariant-loop-reach
invariant-loop-reach l = record {
  zipped : Zipped l.yielded l.texts.items;
  left : l.yielded ++ l.reach-iterator.rest.items ≡ l.fn.found.items;
}
