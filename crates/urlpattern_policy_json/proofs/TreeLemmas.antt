-- Lemmas on the trees of policies.
use Rattle.std.proofs.Common.{◌≡◌, ◌≢◌, ◌∙◌, ◌&&◌, Bool, true, Global, List, [], ◌∷◌, None, Some, String, ap, arith, length, map, refl, slice_get, string_bytes, sym}
use Rattle.serde_json.specs.Data.{Data, Items, Members, array, boolean, member, no_members, null, number, object, string}
use Rattle.serde_json.specs.Find.{as_array, as_object}
use Rattle.serde_json.specs.View.{items_of, members_view, view}
use Rattle.serde_json.specs.declared.value.Value.{Value}
use Rattle.urlpattern_policy_json.specs.ReadPolicies.{all_items, are_init_members, has_init_members, is_init_member, items_in, parts_of_rule}

-- ---- objects

pub object_is : (tree : Data) (found : Members) → as_object tree ≡ Some found → tree ≡ object found
object_is null found is = absurd cc
object_is (boolean b) found is = absurd cc
object_is (number n) found is = absurd cc
object_is (string s) found is = absurd cc
object_is (array items) found is = absurd cc
object_is (object own) found is = ap object (cc)

pub no_object_members : (tree : Data) → as_object tree ≡ None → has_init_members tree ≡ true
no_object_members null none = refl
no_object_members (boolean b) none = refl
no_object_members (number n) none = refl
no_object_members (string s) none = refl
no_object_members (array items) none = refl
no_object_members (object own) none = absurd cc

-- ---- members, one by one

-- The members after the first, if the first may be one of a pattern.
pub members_rest : (key : String Global) (value : Value) (rest : List (String Global × Value)) (total : Bool) → is_init_member (string_bytes key) (view value) ≡ true
    → are_init_members (members_view ((key, value) ∷ rest)) ≡ total → are_init_members (members_view rest) ≡ total
members_rest key value rest total is was = ap (λ known. known && are_init_members (members_view rest)) (sym is) ∙ was

-- ---- rules

pub rule_alone : (entries : List (String Global × Value)) (key : String Global) (value : Value) → length entries ≡ 1 → slice_get entries 0 ≡ Some (key, value)
    → members_view entries ≡ member (string_bytes key) (view value) no_members
rule_alone [] key value one first = absurd cc
rule_alone (entry ∷ []) key value one first = let same : entry ≡ (key, value) = cc in ap (λ (it : String Global × Value). members_view (it ∷ [])) same
rule_alone (entry ∷ other ∷ rest) key value one first = absurd (omega arith)

pub no_rule : (entries : List (String Global × Value)) → length entries ≢ 1 → parts_of_rule (object (members_view entries)) ≡ None
no_rule [] several = refl
no_rule (entry ∷ []) several = absurd (several refl)
no_rule (entry ∷ other ∷ rest) several = refl

-- ---- items

pub items_again : (trees : List Data) → all_items (items_of trees) ≡ trees
items_again [] = refl
items_again (tree ∷ rest) = ap (λ more. tree ∷ more) (items_again rest)

pub items_are : (tree : Data) (items : Items) → as_array tree ≡ Some items → items_in (Some tree) ≡ all_items items
items_are null items is = absurd cc
items_are (boolean b) items is = absurd cc
items_are (number n) items is = absurd cc
items_are (string s) items is = absurd cc
items_are (array own) items is = ap all_items (cc)
items_are (object m) items is = absurd cc

pub no_items_there : (tree : Data) → as_array tree ≡ None → items_in (Some tree) ≡ []
no_items_there null none = refl
no_items_there (boolean b) none = refl
no_items_there (number n) none = refl
no_items_there (string s) none = refl
no_items_there (array own) none = absurd cc
no_items_there (object m) none = refl

pub map_twice : {X Y Z : Type 0} (f : X → Y) (g : Y → Z) (xs : List X) → map (λ x. g (f x)) xs ≡ map g (map f xs)
map_twice f g [] = refl
map_twice f g (x ∷ xs) = ap (λ rest. g (f x) ∷ rest) (map_twice f g xs)
