-- The view of results of a match: the texts that were matched, and the capture of each name.
use Rattle.std.specs.List.{AllZip}
use Rattle.std.specs.Prelude.{◌≡◌, ℕ, Bool, List, reverse, zip, bytes_eq, Option, is_some, option_map, String, string_bytes}
use Rattle.std.specs.Option.{option_flatten}
use Rattle.std.specs.{HashMap.HashMap, HashMap.get_by, Map.lookup}
use Rattle.std.specs.declared.alloc.Global.{Global}
use Rattle.urlpattern_components.specs.declared.eight.ComponentName.{ComponentName}
use Rattle.urlpattern_components.specs.declared.eight.Eight.{Eight}
use Rattle.urlpattern_matches.specs.declared.result.UrlPatternComponentResult.{UrlPatternComponentResult}
use Rattle.urlpattern_matches.specs.declared.result.UrlPatternResult.{UrlPatternResult}
use Rattle.urlpattern_meaning.specs.PartMeaning.{Captures}
use Rattle.urlpattern_syntax.specs.Text.{text_of}
use Rattle.urlpattern_components.specs.Eight.{at}

-- ---- groups

-- The capture of the group `name`, where names and captures are in one order; names or captures
-- without a counterpart are ignored, and the last of equal names counts. None: there is no such
-- group. Some None: the group took no part.
abbrev pub group_of : (names : List (List ℕ)) → Captures
    → (name : List ℕ) → Option (Option (List ℕ))
group_of names captures name = lookup (bytes_eq name) (reverse (zip names captures))

-- The capture of the group `name` in a map of groups. None: there is no such group. Some None: the
-- group took no part.
abbrev pub group_in : {S : Type 0} → HashMap (String Global) (Option (String Global)) S
    → (name : List ℕ) → Option (Option (List ℕ))
group_in groups name =
    option_map (option_map text_of) (get_by (λ key. bytes_eq name (text_of key)) groups)

-- ---- results

-- The view of a `UrlPatternComponentResult`: the text that was matched, and the capture at each
-- name. None: there is no such group. Some None: the group took no part.
pub record ResultView : Type 0 where
  pub input : List ℕ
  pub group : (name : List ℕ) → Option (Option (List ℕ))

-- The view of a component's result.
abbrev pub component_result_view : UrlPatternComponentResult → ResultView
component_result_view result = record {
  input = text_of result.input;
  group = group_in result.groups;
}

-- The result of each component.
abbrev pub results_of : UrlPatternResult → Eight UrlPatternComponentResult
results_of result = record {
  protocol = result.protocol;
  username = result.username;
  password = result.password;
  hostname = result.hostname;
  port = result.port;
  pathname = result.pathname;
  search = result.search;
  hash = result.hash;
}

-- The view of the result of the component `name`.
abbrev pub result_view : UrlPatternResult → ComponentName → ResultView
result_view result name = component_result_view (at (results_of result) name)

-- What the group `name` captured. None: there is no such group, or the group took no part.
abbrev pub captured_text : ResultView → (name : List ℕ) → Option (List ℕ)
captured_text result name = option_flatten (result.group name)

-- Whether the group `name` took part in the match. None: there is no such group.
abbrev pub took_part : ResultView → (name : List ℕ) → Option Bool
took_part result name = option_map is_some (result.group name)

-- `result` is the result of a component for `text`, whose groups have the names `names` and, in the
-- same order, the captures `captures`.
pub record IsResultOf (names : List (List ℕ)) (captures : Captures) (text : List ℕ)
    (result : ResultView) : Type 0 where
  pub has_input : result.input ≡ text
  pub has_groups : (name : List ℕ) → result.group name ≡ group_of names captures name

-- `copy` is a copy of the map entry `entry`: it has an equal name and an equal capture.
abbrev pub IsSameEntry : (entry copy : String Global × Option (String Global)) → Type 0
IsSameEntry entry copy =
    (string_bytes copy.0 ≡ string_bytes entry.0)
    × (option_map string_bytes copy.1 ≡ option_map string_bytes entry.1)

-- `copy` is a copy of the result `given`: it has an equal text, and equal entries in equal order.
pub record IsCopy (given copy : UrlPatternComponentResult) : Type 0 where
  pub input : string_bytes copy.input ≡ string_bytes given.input
  pub groups : AllZip IsSameEntry given.groups.entries copy.groups.entries

-- The two results have equal texts and, at each name, equal captures.
abbrev pub IsSameResult : (result other : ResultView) → Type 0
IsSameResult result other =
    (result.input ≡ other.input) × ((name : List ℕ) → result.group name ≡ other.group name)
