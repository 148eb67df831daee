use Rattle.std.proofs.Common.{take}
use Rattle.urlpattern_ffi_links.specs.GivenBytes.{GiveGroups}
use Rattle.urlpattern_ffi_links.proofs.given.reason_without_memory.Given as goal

-- The parts so far give groups.
abbrev pub invariant-loop-part : goal.invariant-loop-part
invariant-loop-part l = GiveGroups l.text (take l.part-index l.given)
