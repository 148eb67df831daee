use Rattle.std.proofs.Common.{◌≡◌, take}
use Rattle.urlpattern_syntax.specs.Parts.{parts_view}
use Rattle.urlpattern_compare.proofs.equal_parts.are_equal_parts.Given as goal

-- The parts so far are equal.
abbrev pub invariant-loop-index : goal.invariant-loop-index
invariant-loop-index l = take l.index (parts_view l.parts) ≡ take l.index (parts_view l.others)
