use Rattle.std.proofs.Common.{◌≡◌, take}
use Rattle.urlpattern_compare.specs.Comparing.{unnamed}
use Rattle.urlpattern_compare.proofs.component_coverage.are_same_parts.Given as goal

-- The parts so far are equal but for names.
abbrev pub invariant-loop-index : goal.invariant-loop-index
invariant-loop-index l = take l.index (unnamed l.parts) ≡ take l.index (unnamed l.others)
