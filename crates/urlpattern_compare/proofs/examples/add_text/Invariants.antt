use Rattle.std.proofs.Common.{◌≡◌, ◌++◌}
use Rattle.urlpattern_compare.proofs.examples.add_text.Given as goal

abbrev pub invariant-loop-c : goal.invariant-loop-c
invariant-loop-c l = l.text.items ≡ l.fn.text.items ++ l.yielded
