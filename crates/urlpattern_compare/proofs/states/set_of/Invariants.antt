use Rattle.std.proofs.Common.{◌≡◌, drop, replicate, false}
use Rattle.urlpattern_compare.specs.Searching.{with_states}
use Rattle.urlpattern_compare.proofs.states.set_of.Given as goal

abbrev pub invariant-loop-state : goal.invariant-loop-state
invariant-loop-state l = with_states l.flags.items (drop l.state-index l.starts) ≡ with_states (replicate l.states false) l.starts
