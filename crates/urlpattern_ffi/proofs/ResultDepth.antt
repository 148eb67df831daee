-- The JSON of a result nests three objects: the result, a component and its groups.
use Rattle.std.proofs.Common.{◌≡◌, ℕ, ◌≤◌, Bool, List, [], ◌∷◌, true, false, ap, refl, arith, codes, Ordering, Less, Equal, Greater, Option, Some, None}
use Rattle.std.proofs.lemmas.Bool.{and_parts}
use Rattle.std.specs.Cmp.Lexicographic.{slice_cmp}
use Rattle.std.specs.Ordering.{match_ordering, nat_cmp}
use Rattle.std.specs.Prelude.{if◌then◌else◌, is_some, map}
use Rattle.serde_json.specs.Data.{Data, Members, array, boolean, depth, member, members_depth, no_members, null, number, object, put, string}
use Rattle.serde_json.specs.Read.{max_depth}
use Rattle.urlpattern_components.specs.Eight.{at, components, name_text}
use Rattle.urlpattern_components.specs.declared.eight.ComponentName.{ComponentName}
use Rattle.urlpattern_components.specs.declared.eight.Eight.{Eight}
use Rattle.urlpattern_inputs.specs.Trees.{all_with, each_member, with}
use Rattle.urlpattern_matches.specs.ResultJson.{GroupsByName, IsComponentTree, IsResultTree, PlainResultView, are_captures, captured_read, group_member, groups_read}

-- ---- objects

depth-either : (order : Ordering) (a b c : Members) (n : ℕ) → members_depth a ≤ n → members_depth b ≤ n → members_depth c ≤ n → members_depth (match_ordering order a b c) ≤ n
depth-either Less a b c n first second third = first
depth-either Equal a b c n first second third = second
depth-either Greater a b c n first second third = third

put-shallow : (name : List ℕ) (tree : Data) (among : Members) (n : ℕ) → depth tree ≤ n → members_depth among ≤ n → members_depth (put name tree among) ≤ n
put-shallow name tree no_members n shallow before = omega arith
put-shallow name tree (member other found rest) n shallow before =
    depth-either (slice_cmp nat_cmp name other) (member name tree (member other found rest)) (member other tree rest) (member other found (put name tree rest)) n (omega arith) (omega arith)
    (omega (arith, put-shallow name tree rest n shallow (omega arith)))

-- The tree, if there is one, is at most this deep.
abbrev IsShallow : ℕ → Option Data → Type 0
IsShallow n None = Unit {0}
IsShallow n (Some tree) = depth tree ≤ n

abbrev AreShallow : ℕ → List (List ℕ × Option Data) → Type 0
AreShallow n [] = Unit {0}
AreShallow n (named ∷ rest) = IsShallow n named.1 × AreShallow n rest

with-shallow : (n : ℕ) (among : Members) (name : List ℕ) (tree : Option Data) → members_depth among ≤ n → IsShallow n tree → members_depth (with among (name, tree)) ≤ n
with-shallow n among name None before shallow = before
with-shallow n among name (Some tree) before shallow = put-shallow name tree among n shallow before

all_with-shallow : (n : ℕ) (among : Members) (named : List (List ℕ × Option Data)) → members_depth among ≤ n → AreShallow n named → members_depth (all_with among named) ≤ n
all_with-shallow n among [] before shallow = before
all_with-shallow n among (named ∷ rest) before shallow =
    all_with-shallow n (with among named) rest (with-shallow n among named.0 named.1 before shallow.0) shallow.1

-- ---- groups

capture-shallow : (tree : Data) → is_some (captured_read tree) ≡ true → depth tree ≤ 0
capture-shallow null is = omega arith
capture-shallow (string text) is = omega arith
capture-shallow (boolean b) is = absurd cc
capture-shallow (number n) is = absurd cc
capture-shallow (array items) is = absurd cc
capture-shallow (object among) is = absurd cc

captures-shallow : (among : Members) → are_captures among ≡ true → members_depth among ≤ 0
captures-shallow no_members are = omega arith
captures-shallow (member name tree rest) are =
    let both = and_parts (is_some (captured_read tree)) (are_captures rest) are in
    omega (arith, capture-shallow tree both.0, captures-shallow rest both.1)

some-only : (is : Bool) (groups other : GroupsByName) → (if is then Some groups else None) ≡ Some other → is ≡ true
some-only true groups other e = refl
some-only false groups other e = absurd cc

groups-shallow : (tree : Data) (groups : GroupsByName) → groups_read tree ≡ Some groups → depth tree ≤ 1
unfolding groups_read
groups-shallow (object among) groups is = omega (arith, captures-shallow among (some-only (are_captures among) (group_member among) groups is))
groups-shallow null groups is = absurd cc
groups-shallow (string text) groups is = absurd cc
groups-shallow (boolean b) groups is = absurd cc
groups-shallow (number n) groups is = absurd cc
groups-shallow (array items) groups is = absurd cc

-- ---- results

component-shallow : (result : PlainResultView) (tree : Data) → IsComponentTree result tree → depth tree ≤ 2
component-shallow result tree (groups, are_groups, is) =
    let named : List (List ℕ × Option Data) = (codes "input", Some (string result.input)) ∷ (codes "groups", Some groups) ∷ [] in
    let inside = all_with-shallow 1 no_members named (omega arith) (omega arith, (groups-shallow groups result.group are_groups, tt)) in
    omega (arith, inside, ap depth is)

each-shallow : (n : ℕ) (trees : Eight Data) (names : List ComponentName) → ((name : ComponentName) → depth (at trees name) ≤ n)
    → AreShallow n (map (λ name. (name_text name, Some (at trees name))) names)
each-shallow n trees [] shallow = tt
each-shallow n trees (name ∷ names) shallow = (shallow name, each-shallow n trees names shallow)

-- The tree of a result is no deeper than the texts that are read.
pub result-shallow : (results : Eight PlainResultView) (tree : Data) → IsResultTree results tree → depth tree ≤ max_depth
result-shallow results tree (trees, are_trees, is) =
    let each = each-shallow 2 trees components (λ name. component-shallow (at results name) (at trees name) (are_trees name)) in
    let inside = all_with-shallow 2 no_members (each_member (λ name. Some (at trees name))) (omega arith) each in
    omega (arith, inside, ap depth is)
