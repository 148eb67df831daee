use Rattle.std.proofs.Common.{◌≡◌, map}
use Rattle.std.specs.Prelude.{Ok}
use Rattle.example.proofs.server.allow.Given as goal

-- The names are those that were returned.
abbrev pub invariant-loop-method : goal.invariant-loop-method
invariant-loop-method l = l.yielded ≡ map (λ name. Ok name) l.names.items
