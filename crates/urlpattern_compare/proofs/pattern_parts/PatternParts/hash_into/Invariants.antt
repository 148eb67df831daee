use Rattle.std.proofs.Common.{◌≡◌, ◌≤◌, length, take}
use Rattle.std.specs.List.{flat_map, fold}
use Rattle.urlpattern_components.specs.Eight.{at, components}
use Rattle.urlpattern_compare.specs.PartsHash.{component_input}
use Rattle.urlpattern_compare.proofs.pattern_parts.PatternParts.hash_into.Given as goal

-- The components so far are fed.
abbrev pub invariant-loop-index : goal.invariant-loop-index
invariant-loop-index g l =
    (l.index ≤ length components)
    × (l.state ≡ fold g.H.Hasher.write l.initial.state (flat_map (λ name. component_input (at l.self.components name)) (take l.index components)))
