-- Names in order.
use Rattle.std.proofs.Common.{◌+◌, ◌<◌, Bool, List, [], ◌∷◌, map, length, ap₂, ◌∙◌, subst, arith}
use Rattle.std.proofs.lemmas.List.{get_or-map, length-map}
use Rattle.std.specs.Prelude.{IsSortedBy}

-- Values that are in order by a function are in order after that function is applied.
pub sorted_map : {X Y : Type 0} (f : X → Y) (lt : Y → Y → Bool) (xs : List X) → IsSortedBy (λ x y. lt (f x) (f y)) xs → IsSortedBy lt (map f xs)
sorted_map f lt [] h k d low high = absurd (omega (arith, high))
sorted_map f lt (x ∷ rest) h k d low high =
    let within : k + 1 < length (x ∷ rest) = subst (λ n. k + 1 < n) (length-map (x ∷ rest) f) high in
    ap₂ lt (get_or-map f (x ∷ rest) (k + 1) x d within) (get_or-map f (x ∷ rest) k x d (omega (arith, within))) ∙ h k x low within
