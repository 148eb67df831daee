use Rattle.std.proofs.Common.{◌≡◌, map}
use Rattle.std.specs.Prelude.{Ok}
use Rattle.urlpattern_ffi_tables.proofs.allowed_methods.methods_text.Given as goal

-- The methods are those that were returned.
abbrev pub invariant-loop-method : goal.invariant-loop-method
invariant-loop-method l = l.yielded ≡ map (λ method. Ok method) l.methods.items
