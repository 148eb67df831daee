use Rattle.std.proofs.Common.{take}
use Rattle.std.specs.List.{AllZip}
use Rattle.urlpattern_ffi_links.specs.GivenBytes.{GivesGroup}
use Rattle.urlpattern_ffi_links.proofs.given.groups_of.Given as goal

-- The parts so far give these groups.
abbrev pub invariant-loop-part : goal.invariant-loop-part
invariant-loop-part l = AllZip (GivesGroup l.text) (take l.part-index l.given) l.groups.items
