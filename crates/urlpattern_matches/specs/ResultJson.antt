-- The JSON of results, in the shape of a browser's `URLPatternResult`: the tree of a result, and
-- the result that a tree is read as. Texts are bytes in UTF-8, as in JSON.
use Rattle.std.specs.Prelude.{◌≡◌, ℕ, Bool, true, ◌&&◌, if◌then◌else◌, List, [], ◌∷◌, Option, None, Some, is_some, String, option_map, string_bytes, codes}
use Rattle.std.specs.{HashMap.HashMap, HashMap.get_by_text}
use Rattle.std.specs.declared.alloc.Global.{Global}
use Rattle.serde_json.specs.Data.{Data, string, Members, no_members, member}
use Rattle.serde_json.specs.Find.{as_object, as_str, get_member}
use Rattle.serde_json.specs.declared.value.Value.{Value}
use Rattle.urlpattern_inputs.specs.Trees.{◌>>=◌, Gain, each_member, found_read, member_read, object_of, read_each, text_read}
use Rattle.urlpattern_matches.specs.BorrowedMatches.{pattern_captures_view}
use Rattle.urlpattern_matches.specs.ResultViews.{IsSameResult, result_view, results_of}
use Rattle.urlpattern_matches.specs.declared.captures.UrlPatternCaptures.{UrlPatternCaptures}
use Rattle.urlpattern_matches.specs.declared.result.UrlPatternComponentResult.{UrlPatternComponentResult}
use Rattle.urlpattern_matches.specs.declared.result.UrlPatternResult.{UrlPatternResult}
use Rattle.urlpattern_components.specs.declared.eight.ComponentName.{ComponentName}
use Rattle.urlpattern_components.specs.declared.eight.Eight.{Eight}
use Rattle.urlpattern_components.specs.Eight.{at, each, name_text}

-- ---- results

-- The captures of groups, by name. None: there is no such group. Some None: the group took no part.
abbrev pub GroupsByName : Type 0
GroupsByName = (name : List ℕ) → Option (Option (List ℕ))

-- The view of a `UrlPatternComponentResult`: the text that was matched, and the groups by name.
pub record PlainResultView : Type 0 where
  pub input : List ℕ
  pub group : GroupsByName

-- The groups of a map, by name.
abbrev pub groups_by_name : {S : Type 0} → HashMap (String Global) (Option (String Global)) S
    → GroupsByName
groups_by_name groups = λ name. option_map (option_map string_bytes) (get_by_text groups name)

-- The view of a component's result, with texts as bytes.
abbrev pub plain_result_view : UrlPatternComponentResult → PlainResultView
plain_result_view result = record {
  input = string_bytes result.input;
  group = groups_by_name result.groups;
}

-- The view of each component's result, with texts as bytes.
abbrev pub plain_results_view : UrlPatternResult → Eight PlainResultView
plain_results_view result = each (λ name. plain_result_view (at (results_of result) name))

-- ---- reading

-- The capture that a JSON value is read as: a text, or Some None for null, the group took no part.
-- None: the value is neither.
abbrev pub captured_read : Data → Option (Option (List ℕ))
captured_read tree = found_read as_str (Some tree)

-- The capture that the member at `name` is read as. None: there is no such member, or the member is
-- neither a text nor null.
abbrev pub group_member : Members → GroupsByName
group_member members = λ name. get_member name members >>= captured_read

-- Whether each member is a text or null.
abbrev pub are_captures : Members → Bool
are_captures no_members = true
are_captures (member name tree rest) = is_some (captured_read tree) && are_captures rest

-- The groups that the members of an object are read as, or None if a member is neither a text nor
-- null.
abbrev pub groups_of_members : Members → Option GroupsByName
groups_of_members members = if are_captures members then Some (group_member members) else None

-- The groups that a JSON value is read as. None: the value is not an object, or a member is neither
-- a text nor null.
unfoldable pub groups_read : Data → Option GroupsByName
groups_read tree = as_object tree >>= groups_of_members

-- The component's result that a JSON value is read as, from the members `input` and `groups` of an
-- object. None: the value has another shape.
unfoldable pub component_result_read : Data → Option PlainResultView
component_result_read tree = do
  input ← text_read (codes "input") tree
  group ← member_read groups_read (codes "groups") tree
  Some (record { input = input; group = group })

-- The results of the eight components that a JSON value is read as, from the members of an object,
-- by the names of the components. None: the value has another shape.
abbrev pub result_read : Data → Option (Eight PlainResultView)
result_read tree = read_each (λ name. member_read component_result_read (name_text name) tree)

-- ---- trees

-- `tree` is the JSON of the component's result `result`: an object with the text as `input` and an
-- object of the groups as `groups`, and no other members.
abbrev pub IsComponentTree : PlainResultView → Data → Type 0
IsComponentTree result tree =
    (groups : Data) × (groups_read groups ≡ Some result.group)
    × (tree
    ≡ object_of
    ((codes "input", Some (string result.input)) ∷ (codes "groups", Some groups) ∷ []))

-- `tree` is the JSON of a whole result: an object with the JSON of each component's result, by the
-- component's name.
abbrev pub IsResultTree : Eight PlainResultView → Data → Type 0
IsResultTree result tree =
    (components : Eight Data)
    × ((name : ComponentName) → IsComponentTree (at result name) (at components name))
    × (tree ≡ object_of (each_member (λ name. Some (at components name))))

-- `tree` is the JSON of a borrowed match: the JSON of a result with the texts and groups of the
-- match.
abbrev pub IsTreeOfCaptures : UrlPatternCaptures → Data → Type 0
IsTreeOfCaptures found tree =
    (result : UrlPatternResult)
    × ((name : ComponentName)
    → IsSameResult (result_view result name) (pattern_captures_view found name))
    × IsResultTree (plain_results_view result) tree

-- `after` is `before` with a member set: the JSON of the component's result `result`, at `name`.
abbrev pub GainsComponent : (before after : List (String Global × Value)) → (name : List ℕ)
    → PlainResultView → Type 0
GainsComponent before after name result =
    (tree : Data) × IsComponentTree result tree × Gain before after name (Some tree)
