-- Lemmas on the JSON of rules.
use Rattle.std.proofs.Common.{◌≡◌, List, [], ◌∷◌, ap, map, refl}
use Rattle.serde_json.specs.Data.{item}
use Rattle.serde_json.specs.View.{items_of}
use Rattle.urlpattern_routes.specs.Trees.{condition_tree, tree_items}
use Rattle.urlpattern_routes.specs.Views.{condition_view, listed}
use Rattle.urlpattern_routes.specs.declared.condition.RouterCondition.{RouterCondition}

pub items-listed : (conditions : List RouterCondition) → items_of (map (λ one. condition_tree (condition_view one)) conditions) ≡ tree_items (listed (map condition_view conditions))
items-listed [] = refl
items-listed (one ∷ rest) = ap (item (condition_tree (condition_view one))) (items-listed rest)

pub map-twice : {X Y Z : Type 0} (f : X → Y) (g : Y → Z) (xs : List X) → map (λ x. g (f x)) xs ≡ map g (map f xs)
map-twice f g [] = refl
map-twice f g (x ∷ xs) = ap (λ rest. g (f x) ∷ rest) (map-twice f g xs)
