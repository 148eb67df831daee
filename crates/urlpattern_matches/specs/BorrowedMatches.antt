-- The view of a borrowed match, a `UrlPatternCaptures`, and of its groups.
use Rattle.std.specs.Prelude.{◌≡◌, ℕ, List, ◌++◌, map, zip, IfOk, IfSome, Option, Result, String, option_map, string_eq}
use Rattle.std.specs.{Borrow.Bor, HashMap.HashMap, HashMap.IsUnique, List.filter_map, List.flat_map, Slice.Iter.iter_rest, Str.chars}
use Rattle.std.specs.declared.alloc.Global.{Global}
use Rattle.urlpattern_components.specs.declared.eight.ComponentName.{ComponentName}
use Rattle.urlpattern_matches.specs.declared.captures.UrlPatternCaptures.{UrlPatternCaptures}
use Rattle.urlpattern_matches.specs.declared.captures.groups.UrlPatternCapturesIter.{UrlPatternCapturesIter}
use Rattle.urlpattern_matches.specs.declared.captures.groups.UrlPatternGroups.{UrlPatternGroups}
use Rattle.urlpattern_matches.specs.GroupTexts.{captures_of, texts_of}
use Rattle.urlpattern_matches.specs.ResultViews.{IsSameResult, ResultView, group_of, result_view, results_of}
use Rattle.urlpattern_matches.specs.declared.result.UrlPatternResult.{UrlPatternResult}
use Rattle.urlpattern_syntax.specs.Text.{option_text, text_of}
use Rattle.urlpattern_components.specs.Eight.{at}

-- The names of a component's groups, in order.
abbrev pub names_view : UrlPatternCaptures → ComponentName → List (List ℕ)
names_view found component = map (λ name. text_of name) (at found.names component).now.items

-- The groups of a component, in order: each name with its capture.
abbrev pub groups_view : UrlPatternCaptures → ComponentName → List (List ℕ × Option (List ℕ))
groups_view found component =
    zip (names_view found component) (captures_of (at found.captures component))

-- ---- iteration over groups

-- The view of a group, its name with its capture. None: the group took no part.
abbrev pub group_text : Bor (List ℕ) × Option (Bor (List ℕ)) → List ℕ × Option (List ℕ)
group_text group = (chars group.0.now, option_text group.1)

-- The groups that an iterator over one component's groups has yet to return.
abbrev pub groups_left : UrlPatternGroups → List (List ℕ × Option (List ℕ))
groups_left groups =
    zip (texts_of (iter_rest groups.names)) (map option_text (iter_rest groups.captures))

-- A group: its component, its name and its capture. None: the group took no part.
abbrev pub NamedGroup : Type 0
NamedGroup = ComponentName × List ℕ × Option (List ℕ)

-- The view of a group, with its component.
abbrev pub named_group_text : ComponentName × Bor (List ℕ) × Option (Bor (List ℕ)) → NamedGroup
named_group_text group = (group.0, chars group.1.now, option_text group.2)

-- The groups, each with the component `component` added.
abbrev pub named_groups : ComponentName → List (List ℕ × Option (List ℕ)) → List NamedGroup
named_groups component groups = map (λ group. (component, group.0, group.1)) groups

-- The groups of the components `components` of a borrowed match, in order.
abbrev pub all_groups_view : UrlPatternCaptures → List ComponentName → List NamedGroup
all_groups_view found components =
    flat_map (λ component. named_groups component (groups_view found component)) components

-- The groups that an iterator over all components' groups has yet to return.
abbrev pub all_groups_left : UrlPatternCapturesIter → List NamedGroup
all_groups_left groups =
    named_groups groups.component (groups_left groups.groups)
    ++ all_groups_view groups.captures.now (iter_rest groups.components)

-- ---- the groups that took part

-- A group that took part: its component, its name and what it captured.
abbrev pub GroupText : Type 0
GroupText = ComponentName × List ℕ × List ℕ

-- The group `group` with what it captured, or None if the group took no part.
abbrev pub text_captured : NamedGroup → Option GroupText
text_captured group = option_map (λ text. (group.0, group.1, text)) group.2

-- The groups of `groups` that took part, in order.
abbrev pub texts_captured : List NamedGroup → List GroupText
texts_captured groups = filter_map text_captured groups

-- The view of a group whose name and capture are borrowed.
abbrev pub borrowed_group : ComponentName × Bor (List ℕ) × Bor (List ℕ) → GroupText
borrowed_group group = (group.0, chars group.1.now, chars group.2.now)

-- `new` is `old`, followed by those of `groups`, the groups of `component`, that took part.
abbrev pub AddsParticipating : (old new : List (ComponentName × Bor (List ℕ) × Bor (List ℕ)))
    → ComponentName
    → List (List ℕ × Option (List ℕ)) → Type 0
AddsParticipating old new component groups =
    map borrowed_group new
    ≡ map borrowed_group old ++ texts_captured (named_groups component groups)

-- ---- the groups of a result

-- The groups of the entries of a map: each name with its capture.
abbrev pub listed_entries : List (String Global × Option (String Global))
    → List (List ℕ × Option (List ℕ))
listed_entries entries = map (λ group. (text_of group.0, option_map text_of group.1)) entries

-- The groups of a map, in any order: each name with its capture.
abbrev pub listed_groups : {S : Type 0} → HashMap (String Global) (Option (String Global)) S
    → List (List ℕ × Option (List ℕ))
listed_groups groups = listed_entries groups.entries

-- The groups of the components `components` of a result: the components in order, and the groups of
-- each in any order.
abbrev pub all_listed_groups : UrlPatternResult → List ComponentName → List NamedGroup
all_listed_groups result components =
    flat_map (λ component.
    named_groups component (listed_groups (at (results_of result) component).groups)) components

-- No two groups of the component have equal names.
abbrev pub HasDistinctGroups : UrlPatternResult → ComponentName → Type 0
HasDistinctGroups result component = IsUnique string_eq (at (results_of result) component).groups

-- ---- results

-- The view of a `UrlPatternCaptures`, component by component: the text, and the capture at each
-- name.
abbrev pub pattern_captures_view : UrlPatternCaptures → ComponentName → ResultView
pattern_captures_view found component = record {
  input = chars (at found.texts component).now;
  group = group_of (names_view found component) (captures_of (at found.captures component));
}

-- `copy` is a copy of the match `found`: it has the texts of the match and, at each name, its
-- capture.
abbrev pub IsCopyOfMatch : UrlPatternCaptures → UrlPatternResult → Type 0
IsCopyOfMatch found copy =
    (component : ComponentName)
    → IsSameResult (result_view copy component) (pattern_captures_view found component)

-- If `result` is a match, `Holds` is true of it. Nothing is said of None or of an error.
abbrev pub IfMatch : {Fault : Type 0} → Result (Option UrlPatternCaptures) Fault
    → (UrlPatternCaptures → Type 0) → Type 0
IfMatch result Holds = IfOk result (λ found. IfSome found Holds)
