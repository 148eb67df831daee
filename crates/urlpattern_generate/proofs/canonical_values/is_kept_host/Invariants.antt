use Rattle.std.proofs.Common.{◌≡◌, drop, false}
use Rattle.urlpattern_generate.specs.CanonicalValues.{is_kept_host}
use Rattle.urlpattern_generate.proofs.canonical_values.is_kept_host.Given as goal

-- The remaining bytes decide.
abbrev pub invariant-loop-b : goal.invariant-loop-b
invariant-loop-b l = is_kept_host l.dotted (drop l.b-index l.value) ≡ is_kept_host false l.value
