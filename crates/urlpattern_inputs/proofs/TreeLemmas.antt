-- Lemmas on the members of an object by their keys.
use Rattle.std.proofs.Common.{◌≡◌, ℕ, Bool, true, false, cond, true≢false, List, [], ◌∷◌, Option, None, Some, bytes_eq, map, refl, sym, ap, ◌∙◌, option_map}
use Rattle.std.proofs.lemmas.Slice.Eq.{bytes_eq-Decides}
use Rattle.serde_json.proofs.Views.{get_member-put, get_member-put_other}
use Rattle.serde_json.specs.Data.{Data, Members, no_members, put, string}
use Rattle.serde_json.specs.Find.{as_str, get_member}
use Rattle.urlpattern_inputs.specs.Trees.{all_with, found_read, with}
use Rattle.urlpattern_components.specs.Eight.{name_text}
use Rattle.urlpattern_components.specs.declared.eight.ComponentName.{ComponentName}

abbrev pub newer : Option Data → Option Data → Option Data
newer None before = before
newer (Some tree) before = Some tree

pub newer-none : (tree : Option Data) → newer tree None ≡ tree
newer-none None = refl
newer-none (Some tree) = refl

-- The last tree of a key among those that were put.
abbrev pub last_of : List ℕ → List (List ℕ × Option Data) → Option Data → Option Data
last_of name [] before = before
last_of name (named ∷ rest) before = last_of name rest (cond (bytes_eq name named.0) (newer named.1 before) before)

get_member-put_at : (b : Bool) (name key : List ℕ) (tree : Data) (members : Members) → bytes_eq name key ≡ b → get_member name (put key tree members) ≡ cond b (Some tree) (get_member name members)
get_member-put_at true name key tree members e =
    let same : name ≡ key = (bytes_eq-Decides name key).0 e in
    rw same (get_member-put key tree members)
get_member-put_at false name key tree members e =
    get_member-put_other name key tree members (λ same. absurd (true≢false (sym ((bytes_eq-Decides name key).1 same) ∙ e)))

same_cond : {A : Type 0} (b : Bool) (x : A) → x ≡ cond b x x
same_cond true x = refl
same_cond false x = refl

get_member-with : (name : List ℕ) (key : List ℕ) (tree : Option Data) (members : Members)
    → get_member name (with members (key, tree)) ≡ cond (bytes_eq name key) (newer tree (get_member name members)) (get_member name members)
get_member-with name key None members = same_cond (bytes_eq name key) (get_member name members)
get_member-with name key (Some tree) members = get_member-put_at (bytes_eq name key) name key tree members refl

pub get_member-all_with : (name : List ℕ) (listed : List (List ℕ × Option Data)) (members : Members) → get_member name (all_with members listed) ≡ last_of name listed (get_member name members)
get_member-all_with name [] before = refl
get_member-all_with name (named ∷ rest) before =
    get_member-all_with name rest (with before named) ∙ ap (last_of name rest) (get_member-with name named.0 named.1 before)

-- An optional text.
pub optional_string : (text : Option (List ℕ)) → found_read as_str (option_map string text) ≡ Some text
optional_string None = refl
optional_string (Some text) = refl

-- ---- a member for each component

-- The object with the members of some components.
abbrev pub with_each : (ComponentName → Option Data) → List ComponentName → Members
with_each tree names = all_with no_members (map (λ name. (name_text name, tree name)) names)
