-- The JSON of results: the members of an object and the entries of a map of groups.
use Rattle.std.proofs.Common.{◌≡◌, ℕ, Bool, true, false, cond, List, [], ◌∷◌, Option, None, Some, is_some, Ordering, Less, Equal, Greater, bytes_eq, codes, String, string_bytes, string_cmp, refl, sym, ap, ◌∙◌, option_map, arith}
use Rattle.std.proofs.Math.Path.{fun_ext}
use Rattle.std.proofs.lemmas.Slice.Eq.{bytes_eq-Decides}
use Rattle.std.proofs.lemmas.Map.Text.{hash_map_updates_text}
use Rattle.std.specs.Cmp.Lexicographic.{slice_cmp}
use Rattle.std.specs.HashMap.{HashMap, Updates, get_by_text}
use Rattle.std.specs.List.{AllByRecursion, IsDistinct}
use Rattle.std.specs.List.Sorted.{IsStrictlySortedBy}
use Rattle.std.specs.Map.{keys_of, lookup}
use Rattle.std.specs.Option.{option_or}
use Rattle.std.specs.Ordering.{match_ordering, nat_cmp}
use Rattle.std.specs.Prelude.{◌&&◌}
use Rattle.std.specs.String.{string_eq}
use Rattle.std.specs.declared.alloc.Global.{Global}
use Rattle.serde_json.proofs.Views.{member_here, member_later}
use Rattle.serde_json.specs.Data.{Data, Members, member, no_members, put, string}
use Rattle.serde_json.specs.Find.{get, get_member}
use Rattle.serde_json.specs.View.{members_view, view}
use Rattle.serde_json.specs.declared.value.Value.{Value}
use Rattle.urlpattern_inputs.proofs.EachLemmas.{read_each-all}
use Rattle.urlpattern_inputs.proofs.TreeLemmas.{get_member-all_with}
use Rattle.urlpattern_inputs.specs.Trees.{◌>>=◌, each_member, member_read, object_of}
use Rattle.urlpattern_matches.specs.ResultJson.{GroupsByName, IsComponentTree, IsResultTree, PlainResultView, are_captures, captured_read, component_result_read, group_member, groups_by_name, groups_of_members, groups_read, result_read}
use Rattle.urlpattern_components.specs.Eight.{at, name_text}
use Rattle.urlpattern_components.specs.declared.eight.ComponentName.{ComponentName}
use Rattle.urlpattern_components.specs.declared.eight.ComponentName.TheVariants.{Protocol}
use Rattle.urlpattern_components.specs.declared.eight.Eight.{Eight}

-- ---- a map that is copied entry by entry

-- Entries that are still to come count before those that were copied: after the first entry is
-- copied, no later entry has its key.
moved : {D : Type 0} (here : Bool) (first : D) (later old new total : Option D) → (here ≡ true → later ≡ None) → new ≡ cond here (Some first) old
    → option_or (cond here (Some first) later) old ≡ total → option_or later new ≡ total
moved true first later old new total apart is was = rw (apart refl, is) was
moved false first later old new total apart is was = rw is was

map_cond : {X D : Type 0} (show : X → D) (here : Bool) (first : X) (later : Option X) → option_map show (cond here (Some first) later) ≡ cond here (Some (show first)) (option_map show later)
map_cond show true first later = refl
map_cond show false first later = refl

read_cond : {D : Type 0} (read : Data → Option D) (here : Bool) (first : Data) (later : Option Data) → (cond here (Some first) later >>= read) ≡ cond here (read first) (later >>= read)
read_cond read true first later = refl
read_cond read false first later = refl

-- ---- from groups to an object

-- What entries have at a name.
abbrev pub named : List (String Global × Option (String Global)) → GroupsByName
named entries = λ name. option_map (option_map string_bytes) (lookup (λ key. bytes_eq name (string_bytes key)) entries)

none-later : (key : String Global) (rest : List (String Global × Option (String Global))) → AllByRecursion (λ other. string_eq key other ≡ false) (keys_of rest)
    → named rest (string_bytes key) ≡ None
none-later key [] apart = refl
none-later key (entry ∷ rest) apart = rw apart.0 (none-later key rest apart.1)

-- What an object has at a name after a member is put.
group_member-put : (name key : List ℕ) (tree : Data) (old : Members) (capture : Option (List ℕ)) → captured_read tree ≡ Some capture
    → group_member (put key tree old) name ≡ cond (bytes_eq name key) (Some capture) (group_member old name)
group_member-put name key tree old capture is =
    ap (λ found. found >>= captured_read) (get_member-all_with name ((key, Some tree) ∷ []) old)
    ∙ read_cond captured_read (bytes_eq name key) tree (get_member name old)
    ∙ ap (λ read. cond (bytes_eq name key) read (group_member old name)) is

pub group-put : (name : List ℕ) (key : String Global) (value : Option (String Global)) (rest : List (String Global × Option (String Global))) (tree : Data) (old new : Members) (total : Option (Option (List ℕ)))
    → IsDistinct string_eq (keys_of ((key, value) ∷ rest)) → captured_read tree ≡ Some (option_map string_bytes value) → new ≡ put (string_bytes key) tree old
    → option_or (named ((key, value) ∷ rest) name) (group_member old name) ≡ total → option_or (named rest name) (group_member new name) ≡ total
unfolding IsDistinct
group-put name key value rest tree old new total distinct is_tree is_new was =
    moved (bytes_eq name (string_bytes key)) (option_map string_bytes value) (named rest name) (group_member old name) (group_member new name) total
    (λ same. rw ((bytes_eq-Decides name (string_bytes key)).0 same) (none-later key rest distinct.0))
    (rw is_new (group_member-put name (string_bytes key) tree old (option_map string_bytes value) is_tree))
    (ap (λ found. option_or found (group_member old name)) (sym (map_cond (option_map string_bytes) (bytes_eq name (string_bytes key)) value (lookup (λ other. bytes_eq name (string_bytes other)) rest))) ∙ was)

captures-put_at : (o : Ordering) (key other : List ℕ) (tree found : Data) (rest : Members) → is_some (captured_read tree) ≡ true → (is_some (captured_read found) && are_captures rest) ≡ true
    → are_captures (put key tree rest) ≡ true
    → are_captures (match_ordering o (member key tree (member other found rest)) (member other tree rest) (member other found (put key tree rest))) ≡ true
captures-put_at Less key other tree found rest is_capture before later = rw is_capture before
captures-put_at Equal key other tree found rest is_capture before later = grind (arith, before, is_capture)
captures-put_at Greater key other tree found rest is_capture before later = grind (arith, before, later)

pub captures-put : (key : List ℕ) (tree : Data) (members : Members) → is_some (captured_read tree) ≡ true → are_captures members ≡ true → are_captures (put key tree members) ≡ true
captures-put key tree no_members is_capture before = rw is_capture refl
captures-put key tree (member other found rest) is_capture before =
    let rest_before : are_captures rest ≡ true = grind (arith, before) in
    captures-put_at (slice_cmp nat_cmp key other) key other tree found rest is_capture before (captures-put key tree rest is_capture rest_before)

-- An object whose members are these groups is read as them.
pub groups-read : (among : Members) (groups : GroupsByName) → are_captures among ≡ true → ((name : List ℕ) → group_member among name ≡ groups name) → groups_of_members among ≡ Some groups
groups-read among groups captures same = rw captures (ap Some (fun_ext same))

-- ---- from an object to groups

none-above : (key : String Global) (rest : List (String Global × Value)) → AllByRecursion (λ other. string_cmp key other ≡ Less) (keys_of rest)
    → get_member (string_bytes key) (members_view rest) ≡ None
none-above key [] above = refl
none-above key (entry ∷ rest) above = rw above.0 (none-above key rest above.1)

member-first_at : (here : Bool) (name : List ℕ) (entry : String Global × Value) (rest : List (String Global × Value)) → bytes_eq name (string_bytes entry.0) ≡ here
    → get_member name (members_view (entry ∷ rest)) ≡ cond here (Some (view entry.1)) (get_member name (members_view rest))
member-first_at true name entry rest is = member_here name entry rest ((bytes_eq-Decides name (string_bytes entry.0)).0 is)
member-first_at false name entry rest is = member_later name entry rest (λ same. absurd (grind (arith, (bytes_eq-Decides name (string_bytes entry.0)).1 same, is)))

group-first : (name : List ℕ) (key : String Global) (value : Value) (rest : List (String Global × Value)) (capture : Option (List ℕ)) → captured_read (view value) ≡ Some capture
    → group_member (members_view ((key, value) ∷ rest)) name ≡ cond (bytes_eq name (string_bytes key)) (Some capture) (group_member (members_view rest) name)
group-first name key value rest capture is =
    ap (λ found. found >>= captured_read) (member-first_at (bytes_eq name (string_bytes key)) name (key, value) rest refl)
    ∙ read_cond captured_read (bytes_eq name (string_bytes key)) (view value) (get_member name (members_view rest))
    ∙ ap (λ read. cond (bytes_eq name (string_bytes key)) read (group_member (members_view rest) name)) is

alike : (a b : Bool) → (a ≡ true → b ≡ true) → (b ≡ true → a ≡ true) → a ≡ b
alike true b there back = sym (there refl)
alike false true there back = back refl
alike false false there back = refl

same-either_way : (xs ys : List ℕ) → bytes_eq xs ys ≡ bytes_eq ys xs
same-either_way xs ys =
    alike (bytes_eq xs ys) (bytes_eq ys xs)
    (λ same. (bytes_eq-Decides ys xs).1 (sym ((bytes_eq-Decides xs ys).0 same)))
    (λ same. (bytes_eq-Decides xs ys).1 (sym ((bytes_eq-Decides ys xs).0 same)))

pub group-inserted : {S : Type 0} (name : List ℕ) (key copy : String Global) (value : Value) (rest : List (String Global × Value)) (stored : Option (String Global)) (old new : HashMap (String Global) (Option (String Global)) S) (total : Option (Option (List ℕ)))
    → IsStrictlySortedBy string_cmp (keys_of ((key, value) ∷ rest)) → captured_read (view value) ≡ Some (option_map string_bytes stored) → string_bytes copy ≡ string_bytes key
    → Updates string_eq old new copy (Some stored)
    → option_or (group_member (members_view ((key, value) ∷ rest)) name) (groups_by_name old name) ≡ total
    → option_or (group_member (members_view rest) name) (groups_by_name new name) ≡ total
unfolding IsStrictlySortedBy
group-inserted name key copy value rest stored old new total sorted is_capture is_key updates was =
    moved (bytes_eq name (string_bytes key)) (option_map string_bytes stored) (group_member (members_view rest) name) (groups_by_name old name) (groups_by_name new name) total
    (λ same. rw ((bytes_eq-Decides name (string_bytes key)).0 same, none-above key rest sorted.0) refl)
    (ap (option_map (option_map string_bytes)) (hash_map_updates_text (string_bytes copy) old new (Some stored) updates name)
    ∙ ap (λ here. option_map (option_map string_bytes) (cond here (Some stored) (get_by_text old name))) (ap (λ bytes. bytes_eq bytes name) is_key ∙ same-either_way (string_bytes key) name)
    ∙ map_cond (option_map string_bytes) (bytes_eq name (string_bytes key)) stored (get_by_text old name))
    (ap (λ found. option_or found (groups_by_name old name)) (sym (group-first name key value rest (option_map string_bytes stored) is_capture)) ∙ was)

pub sorted-rest : (key : String Global) (value : Value) (rest : List (String Global × Value)) → IsStrictlySortedBy string_cmp (keys_of ((key, value) ∷ rest)) → IsStrictlySortedBy string_cmp (keys_of rest)
unfolding IsStrictlySortedBy
sorted-rest key value rest sorted = sorted.1

pub captures-rest : (key : String Global) (value : Value) (rest : List (String Global × Value)) {total : Bool} (capture : Option (List ℕ)) → captured_read (view value) ≡ Some capture
    → are_captures (members_view ((key, value) ∷ rest)) ≡ total → are_captures (members_view rest) ≡ total
captures-rest key value rest capture is was = ap (λ (read : Option (Option (List ℕ))). is_some read && are_captures (members_view rest)) (sym is) ∙ was

-- ---- trees are read back

component-read : (groups : Data) (result : PlainResultView) → groups_read groups ≡ Some result.group → (tree : Data)
    → tree ≡ object_of ((codes "input", Some (string result.input)) ∷ (codes "groups", Some groups) ∷ []) → component_result_read tree ≡ Some result
unfolding component_result_read
component-read groups result are_groups tree is = rw (is, are_groups) refl

pub component_again : (result : PlainResultView) (tree : Data) → IsComponentTree result tree → component_result_read tree ≡ Some result
component_again result tree (groups, are_groups, is) = component-read groups result are_groups tree is

-- The tree of a component is found by its name.
member_again : (components : Eight Data) (name : ComponentName) → get (name_text name) (object_of (each_member (λ name. Some (at components name)))) ≡ Some (at components name)
member_again components Protocol = refl
member_again components name = refl

pub result_again : (result : Eight PlainResultView) (tree : Data) → IsResultTree result tree → result_read tree ≡ Some result
result_again result tree (components, are_trees, is) =
    read_each-all (λ name. member_read component_result_read (name_text name) tree) result
    (λ name. rw (is, member_again components name) (component_again (at result name) (at components name) (are_trees name)))
