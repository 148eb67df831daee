-- JSON trees member by member: how objects are written, and how members are read.
use Rattle.std.specs.Prelude.{◌≡◌, ℕ, Bool, if◌then◌else◌, List, [], ◌∷◌, Option, None, Some, String, is_some, map, option_map}
use Rattle.std.specs.declared.alloc.Global.{Global}
use Rattle.serde_json.specs.Data.{Data, object, Members, no_members, put}
use Rattle.serde_json.specs.Find.{as_bool, as_null, as_str, get}
use Rattle.serde_json.specs.View.{members_view}
use Rattle.serde_json.specs.declared.value.Value.{Value}
use Rattle.urlpattern_components.specs.declared.eight.ComponentName.{ComponentName}
use Rattle.urlpattern_components.specs.declared.eight.Eight.{Eight}
use Rattle.urlpattern_components.specs.Eight.{components, name_text}
use Rattle.urlpattern_components.specs.declared.eight.ComponentName.TheVariants.{Protocol, Username, Password, Hostname, Port, Pathname, Search, Hash}

-- ---- writing

-- The members of an object with the tree put under the name, or unchanged if there is no tree.
abbrev pub with : Members → List ℕ × Option Data → Members
with members (name, None) = members
with members (name, Some tree) = put name tree members

-- The members with each tree put under its name. A name without a tree changes nothing.
abbrev pub all_with : Members → List (List ℕ × Option Data) → Members
all_with members [] = members
all_with members (named ∷ rest) = all_with (with members named) rest

-- `after` are the entries of an object that has the members `before`, and each tree under its name.
abbrev pub GainAll : (before after : List (String Global × Value)) → List (List ℕ × Option Data)
    → Type 0
GainAll before after named = members_view after ≡ all_with (members_view before) named

-- `after` are the entries of an object that has the members `before`, and the tree, if there is
-- one, under the name.
abbrev pub Gain : (before after : List (String Global × Value)) → (name : List ℕ) → Option Data
    → Type 0
Gain before after name tree = GainAll before after ((name, tree) ∷ [])

-- The object with a member for each name that has a tree.
abbrev pub object_of : List (List ℕ × Option Data) → Data
object_of named = object (all_with no_members named)

-- The name of each component, with what `tree` returns for the component.
abbrev pub each_member : (ComponentName → Option Data) → List (List ℕ × Option Data)
each_member tree = map (λ name. (name_text name, tree name)) components

-- From the JSON tree that `tree` makes of the value, `read` returns the value.
abbrev pub IsReadBack : {A : Type 0} → (tree : A → Data) → (read : Data → Option A) → A → Type 0
IsReadBack tree read value = read (tree value) ≡ Some value

-- ---- reading

infixl 10 ◌>>=◌
-- What `next` returns for the value, `None` if there is no value.
abbrev pub ◌>>=◌ : {A B : Type 0} → Option A → (A → Option B) → Option B
None >>= next = None
(Some value) >>= next = next value

-- What `read` returns for the member with this name. `None` also if the tree has no such member, as
-- it is not an object or lacks the name.
abbrev pub member_read : {A : Type 0} → (Data → Option A) → List ℕ → Data → Option A
member_read read name tree = get name tree >>= read

-- The text of the member with this name. `None`: there is no such member, or it is not a string.
abbrev pub text_read : List ℕ → Data → Option (List ℕ)
text_read name tree = member_read as_str name tree

-- The Boolean of the member with this name. `None`: there is no such member, or it is not a
-- Boolean.
abbrev pub flag_read : List ℕ → Data → Option Bool
flag_read name tree = member_read as_bool name tree

-- What `read` returns for an optional tree: `Some None` if the tree is missing or null, `None` if
-- it has another shape.
abbrev pub found_read : {A : Type 0} → (Data → Option A) → Option Data → Option (Option A)
found_read read None = Some None
found_read read (Some tree) =
    if is_some (as_null tree) then Some None else option_map Some (read tree)

-- What `read` returns for the member with this name: `Some None` if the member is missing or null,
-- `None` if it has another shape.
abbrev pub optional_read : {A : Type 0} → (Data → Option A) → List ℕ → Data → Option (Option A)
optional_read read name tree = found_read read (get name tree)

-- What `read` returns for each component. `None`: `read` returns `None` for one of them.
unfoldable pub read_each : {A : Type 0} → (ComponentName → Option A) → Option (Eight A)
read_each read = do
  protocol ← read Protocol
  username ← read Username
  password ← read Password
  hostname ← read Hostname
  port ← read Port
  pathname ← read Pathname
  search ← read Search
  hash ← read Hash
  Some (record {
    protocol = protocol;
    username = username;
    password = password;
    hostname = hostname;
    port = port;
    pathname = pathname;
    search = search;
    hash = hash;
  })
