use Rattle.std.proofs.Common.{◌≡◌, ◌++◌, replicate, None}
use Rattle.urlpattern_steps.proofs.walk.push_unmatched.Given as goal

abbrev pub invariant-loop : goal.invariant-loop
invariant-loop l = l.captures.items ≡ l.fn.captures.items ++ replicate l.counter None
