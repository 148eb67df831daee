use Rattle.std.proofs.Common.{take}
use Rattle.std.specs.Prelude.{All}
use Rattle.urlpattern.proofs.ListedParts.{HasParts}
use Rattle.urlpattern.proofs.list.unreached.error_without_memory.Given as goal

abbrev pub invariant-loop-pattern : goal.invariant-loop-pattern
invariant-loop-pattern g l = All HasParts (take l.pattern-index l.patterns)
