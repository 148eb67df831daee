use Rattle.std.proofs.Common.{take}
use Rattle.std.specs.Map.{keys_of}
use Rattle.std.specs.Prelude.{All}
use Rattle.urlpattern.proofs.ListedParts.{HasParts}
use Rattle.urlpattern_policy_differences.proofs.comparing.compare_errors.error_of.Given as goal

abbrev pub invariant-loop-index : goal.invariant-loop-index
invariant-loop-index g l = All HasParts (take l.index (keys_of l.rules))
