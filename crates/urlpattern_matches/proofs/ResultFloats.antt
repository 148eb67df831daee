-- The JSON of a result has no float. Its text is therefore known.
use Rattle.std.proofs.Common.{◌≡◌, ℕ, Bool, true, false, List, [], ◌∷◌, map, None, Some, Ordering, Less, Equal, Greater, codes, refl, ap, ◌∙◌}
use Rattle.std.proofs.lemmas.Bool.{and_parts}
use Rattle.std.specs.Cmp.Lexicographic.{slice_cmp}
use Rattle.std.specs.Ordering.{match_ordering, nat_cmp}
use Rattle.std.specs.Prelude.{◌||◌, if◌then◌else◌, is_some}
use Rattle.serde_json.specs.Data.{Data, Members, boolean, member, no_members, null, object, put, string}
use Rattle.serde_json.specs.Written.{has_float, members_have_float}
use Rattle.urlpattern_components.specs.Eight.{at, components, name_text}
use Rattle.urlpattern_components.specs.declared.eight.ComponentName.{ComponentName}
use Rattle.urlpattern_components.specs.declared.eight.Eight.{Eight}
use Rattle.urlpattern_inputs.specs.Trees.{all_with}
use Rattle.urlpattern_matches.specs.ResultJson.{GroupsByName, IsComponentTree, IsResultTree, PlainResultView, are_captures, captured_read, group_member, groups_read}

-- ---- members

parts_have_none : (a b : Bool) → (a || b) ≡ false → (a ≡ false) × (b ≡ false)
parts_have_none false b none = (refl, none)
parts_have_none true b none = absurd cc

has_none : (tree : Data) (rest : Members) → has_float tree ≡ false → members_have_float rest ≡ false → (has_float tree || members_have_float rest) ≡ false
has_none tree rest none others = rw none others

put_at-none : (o : Ordering) (key other : List ℕ) (tree found : Data) (rest : Members) → has_float tree ≡ false → has_float found ≡ false → members_have_float rest ≡ false
    → members_have_float (put key tree rest) ≡ false
    → members_have_float (match_ordering o (member key tree (member other found rest)) (member other tree rest) (member other found (put key tree rest))) ≡ false
put_at-none Less key other tree found rest none old others later = has_none tree (member other found rest) none (has_none found rest old others)
put_at-none Equal key other tree found rest none old others later = has_none tree rest none others
put_at-none Greater key other tree found rest none old others later = has_none found (put key tree rest) old later

-- A member set to a tree without floats.
pub put-none : (key : List ℕ) (tree : Data) (among : Members) → has_float tree ≡ false → members_have_float among ≡ false → members_have_float (put key tree among) ≡ false
put-none key tree no_members none others = has_none tree no_members none refl
put-none key tree (member other found rest) none others =
    let parts = parts_have_none (has_float found) (members_have_float rest) others in
    put_at-none (slice_cmp nat_cmp key other) key other tree found rest none parts.0 parts.1 (put-none key tree rest none parts.1)

-- The members of all components, none of which has a float.
pub each-none : (trees : ComponentName → Data) → ((name : ComponentName) → has_float (trees name) ≡ false) → (names : List ComponentName) (among : Members)
    → members_have_float among ≡ false → members_have_float (all_with among (map (λ name. (name_text name, Some (trees name))) names)) ≡ false
each-none trees none [] among before = before
each-none trees none (name ∷ names) among before =
    each-none trees none names (put (name_text name) (trees name) among) (put-none (name_text name) (trees name) among (none name) before)

-- ---- groups

capture-none : (tree : Data) → is_some (captured_read tree) ≡ true → has_float tree ≡ false
capture-none null is = refl
capture-none (boolean b) is = refl
capture-none (string text) is = refl
capture-none tree is = absurd cc

captures-none : (among : Members) → are_captures among ≡ true → members_have_float among ≡ false
captures-none no_members are = refl
captures-none (member name tree rest) are =
    let parts = and_parts (is_some (captured_read tree)) (are_captures rest) are in
    has_none tree rest (capture-none tree parts.0) (captures-none rest parts.1)

are_read : (are : Bool) (found groups : GroupsByName) → (if are then Some found else None) ≡ Some groups → are ≡ true
are_read true found groups is = refl
are_read false found groups is = absurd cc

groups-none : (tree : Data) (groups : GroupsByName) → groups_read tree ≡ Some groups → has_float tree ≡ false
unfolding groups_read
groups-none (object among) groups is = captures-none among (are_read (are_captures among) (group_member among) groups is)
groups-none tree groups is = absurd cc

-- ---- results

component-none : (result : PlainResultView) (tree : Data) → IsComponentTree result tree → has_float tree ≡ false
component-none result tree (groups, are, is) =
    let first = put-none (codes "input") (string result.input) no_members refl refl in
    ap has_float is ∙ put-none (codes "groups") groups (put (codes "input") (string result.input) no_members) (groups-none groups result.group are) first

-- The tree of a result has no float.
pub result-none : (results : Eight PlainResultView) (tree : Data) → IsResultTree results tree → has_float tree ≡ false
result-none results tree (trees, are, is) =
    ap has_float is ∙ each-none (λ name. at trees name) (λ name. component-none (at results name) (at trees name) (are name)) components no_members refl
