use Rattle.std.proofs.Common.{◌≡◌, ◌≤◌, length, take}
use Rattle.std.specs.List.{flat_map, fold}
use Rattle.urlpattern_syntax.specs.Parts.{part_view}
use Rattle.urlpattern_compare.specs.PartsHash.{part_input}
use Rattle.urlpattern_compare.proofs.parts_hash.hash_all_parts.Given as goal

-- The parts so far are fed.
abbrev pub invariant-loop-index : goal.invariant-loop-index
invariant-loop-index g l =
    (l.index ≤ length l.parts)
    × (l.state ≡ fold g.H.Hasher.write l.initial.state (flat_map (λ part. part_input (part_view part)) (take l.index l.parts)))
