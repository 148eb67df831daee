-- The captures of a match as one text, with a span of it for each group. Texts are bytes.
use Rattle.std.specs.Prelude.{◌≡◌, ◌⊎◌, ◌++◌, ◌+◌, ◌<◌, ◌≤◌, ◌^◌, ℕ, List, [], ◌∷◌, length, drop, take, flat_map, slice_get, encode_utf8_all, unwrap_or, is_some, Option, None, Some, if◌then◌else◌}
use Rattle.std.specs.Global.{Global}
use Rattle.std.specs.declared.boxed.Box.{Box}
use Rattle.url.specs.Parts.{Parts}
use Rattle.urlpattern.specs.Eight.{components}
use Rattle.urlpattern.specs.FirstMatch.{IsFirstMatch, patterns_view}
use Rattle.urlpattern.specs.Patterns.{PatternView, pattern_view}
use Rattle.urlpattern_ffi.specs.Calls.{IsFirstReported, IsUrlTested, IsUrlUnderBase}
use Rattle.urlpattern_ffi.specs.KeptPatterns.{PatternList, boxed_patterns}
use Rattle.urlpattern_ffi.specs.Mismatches.{component_number}
use Rattle.urlpattern_ffi.specs.declared.pattern_box.PatternBox.{PatternBox}
use Rattle.urlpattern_ffi.specs.declared.spans.Sizes.{Sizes}
use Rattle.urlpattern_ffi.specs.declared.spans.GroupSpan.{GroupSpan}
use Rattle.urlpattern_ffi.specs.declared.status.Status.{Status}
use Rattle.urlpattern_ffi.specs.declared.status.Status.TheVariants as statuses
use Rattle.urlpattern_components.specs.declared.eight.ComponentName.{ComponentName}
use Rattle.urlpattern_engine.specs.PatternRegexps.{pattern_result}
use Rattle.urlpattern_engine.specs.declared.pattern_regexp.PatternRegexp.{PatternRegexp}
use Rattle.urlpattern_init.specs.Inheritance.{texts_of_url}
use Rattle.urlpattern_init.specs.declared.init.UrlPatternMatchInput.TheVariants as match_inputs
use Rattle.urlpattern_matches.specs.BorrowedMatches.{groups_view}
use Rattle.urlpattern_matches.specs.ResultViews.{ResultView}
use Rattle.urlpattern_matches.specs.declared.captures.UrlPatternCaptures.{UrlPatternCaptures}
use Rattle.urlpattern_pattern.specs.Match.{AreGroupsInOrder}
use Rattle.urlpattern_pattern.specs.UrlPatterns.{UrlPattern}

-- ---- groups

-- A group of a match: its component, its number in the component, and its capture, or `None` if the
-- group took no part.
abbrev pub NumberedGroup : Type 0
NumberedGroup = ComponentName × ℕ × Option (List ℕ)

-- The groups of a component, given with their names, numbered from `from` on.
abbrev pub numbered : ComponentName → (from : ℕ) → List (List ℕ × Option (List ℕ))
    → List NumberedGroup
numbered component from [] = []
numbered component from (group ∷ groups) =
    (component, from, group.1) ∷ numbered component (from + 1) groups

-- The groups of the components `names`, component by component, numbered from 0 on in each.
abbrev pub numbered_groups : (groups : ComponentName → List (List ℕ × Option (List ℕ)))
    → List ComponentName
    → List NumberedGroup
numbered_groups groups names = flat_map (λ name. numbered name 0 (groups name)) names

-- The groups of a match, in the order of the components, numbered from 0 on in each.
abbrev pub found_groups : UrlPatternCaptures → List NumberedGroup
found_groups found = numbered_groups (groups_view found) components

-- `groups` are the groups of the pattern's match of the URL `url` with the base URL `base`, in the
-- order of the components.
pub record AreGroupsOf (pattern : PatternView PatternRegexp) (url base : List ℕ)
    (groups : List NumberedGroup) : Type 0 where
  pub parts : Parts
  pub captures : ComponentName → List (List ℕ × Option (List ℕ))
  pub is_url : IsUrlUnderBase url base parts
  pub are_captures : AreGroupsInOrder pattern_result pattern (texts_of_url parts) captures
  pub are_groups : groups ≡ numbered_groups captures components

-- ---- texts and spans

-- The capture of a group in UTF-8. Empty if the group took no part (`None`).
abbrev pub capture_bytes : Option (List ℕ) → List ℕ
capture_bytes capture = encode_utf8_all (unwrap_or capture [])

-- The captures of groups in UTF-8, one after the other.
abbrev pub texts_of_groups : List NumberedGroup → List ℕ
texts_of_groups groups = flat_map (λ group. capture_bytes group.2) groups

-- The span of a group whose capture begins at byte `start`.
abbrev pub span_at : (start : ℕ) → NumberedGroup → GroupSpan
span_at start group = record {
  component = component_number group.0;
  took_part = if is_some group.2 then 1 else 0;
  group = group.1;
  start = start;
  length = length (capture_bytes group.2);
}

-- The spans of groups whose captures follow each other from byte `start` on.
abbrev pub spans_from : (start : ℕ) → List NumberedGroup → List GroupSpan
spans_from start [] = []
spans_from start (group ∷ groups) =
    span_at start group ∷ spans_from (start + length (capture_bytes group.2)) groups

-- The sizes before anything is written: 0 bytes and 0 spans.
abbrev pub no_sizes : Sizes
no_sizes = record { bytes = 0; spans = 0 }

-- The room that groups need: the bytes of their captures, and a span for each.
abbrev pub sizes_of : List NumberedGroup → Sizes
sizes_of groups = record {
  bytes = length (texts_of_groups groups);
  spans = length (spans_from 0 groups);
}

-- ---- buffers

-- If `added` fits into the list `old` from index `at` on, then `new` is `old` with `added` written
-- there.
abbrev pub IsWrittenAt : {A : Type 0} → (at : ℕ) → (added old new : List A) → Type 0
IsWrittenAt at added old new =
    at + length added ≤ length old → new ≡ take at old ++ added ++ drop (at + length added) old

-- The captures of the groups, from byte `from.bytes` on, and their spans, from index `from.spans`
-- on, end at the sizes `to`. The captures are written to their buffer if all of them fit, and the
-- spans are written to theirs if all of them fit.
pub record AreWrittenAt (groups : List NumberedGroup) (from to : Sizes) (old new : List ℕ)
    (old_spans new_spans : List GroupSpan) : Type 0 where
  pub bytes : to.bytes ≡ from.bytes + length (texts_of_groups groups)
  pub spans : to.spans ≡ from.spans + length (spans_from from.bytes groups)
  pub texts_put : IsWrittenAt from.bytes (texts_of_groups groups) old new
  pub spans_put : IsWrittenAt from.spans (spans_from from.bytes groups) old_spans new_spans

-- `AreWrittenAt` for a single group, given by its component, its number and its capture.
abbrev pub IsGroupWrittenAt : ComponentName → (group : ℕ) → (capture : Option (List ℕ))
    → (from to : Sizes) → (old new : List ℕ)
    → (old_spans new_spans : List GroupSpan) → Type 0
IsGroupWrittenAt component group capture from to old new old_spans new_spans =
    AreWrittenAt ((component, group, capture) ∷ []) from to old new old_spans new_spans

-- `new` is `old` with `elements` written at its start. `old` has room for them.
abbrev pub BeginsWithElements : {A : Type 0} → (elements old new : List A) → Type 0
BeginsWithElements elements old new =
    (length elements ≤ length old) × (new ≡ elements ++ drop (length elements) old)

-- After `from.bytes` bytes and `from.spans` spans, the bytes or the spans of the groups are more
-- than a size can say.
abbrev pub ExceedSizes : (from : Sizes) → List NumberedGroup → Type 0
ExceedSizes from groups =
    (2 ^ 64 ≤ from.bytes + length (texts_of_groups groups))
    ⊎ (2 ^ 64 ≤ from.spans + length groups)

-- The outcome of writing the captures and the spans of the groups. `Done`: each buffer begins with
-- them. `TooSmall`: a buffer has too little room. In both cases `needed` is the room that the
-- groups need. `OutOfMemory`: they need more room than a size can say. Nothing is then said of the
-- buffers and of `needed`.
abbrev pub AreSpansWritten : List NumberedGroup
    → (old new : List ℕ) → (old_spans new_spans : List GroupSpan) → (needed : Sizes) → Status
    → Type 0
AreSpansWritten groups old new old_spans new_spans needed statuses.Done =
    (needed ≡ sizes_of groups)
    × BeginsWithElements (texts_of_groups groups) old new
    × BeginsWithElements (spans_from 0 groups) old_spans new_spans
AreSpansWritten groups old new old_spans new_spans needed statuses.TooSmall =
    (needed ≡ sizes_of groups) × ((length old < needed.bytes) ⊎ (length old_spans < needed.spans))
AreSpansWritten groups old new old_spans new_spans needed statuses.OutOfMemory =
    ExceedSizes no_sizes groups
AreSpansWritten groups old new old_spans new_spans needed status = ⊥

-- ---- matches

-- The outcome of writing the groups of the pattern's match of the URL `url` with the base URL
-- `base`. `Done`, `TooSmall`: there is a match, as in `AreSpansWritten`. Any other status says why
-- there is no match (`IsUrlTested`), and the buffers are unchanged; or it is `OutOfMemory`, and the
-- groups need more room than a size can say.
abbrev pub AreUrlCaptures : PatternView PatternRegexp → (url base : List ℕ) → (old new : List ℕ)
    → (old_spans new_spans : List GroupSpan) → (needed : Sizes)
    → Status → Type 0
AreUrlCaptures pattern url base old new old_spans new_spans needed statuses.Done =
    (groups : List NumberedGroup) × AreGroupsOf pattern url base groups
    × AreSpansWritten groups old new old_spans new_spans needed statuses.Done
AreUrlCaptures pattern url base old new old_spans new_spans needed statuses.TooSmall =
    (groups : List NumberedGroup) × AreGroupsOf pattern url base groups
    × AreSpansWritten groups old new old_spans new_spans needed statuses.TooSmall
AreUrlCaptures pattern url base old new old_spans new_spans needed statuses.OutOfMemory =
    ((new ≡ old) × (new_spans ≡ old_spans))
    ⊎ ((groups : List NumberedGroup) × AreGroupsOf pattern url base groups
    × ExceedSizes no_sizes groups)
AreUrlCaptures pattern url base old new old_spans new_spans needed status =
    IsUrlTested pattern url base status × (new ≡ old) × (new_spans ≡ old_spans)

-- The outcome of writing the groups of the match by the pattern at `index` (`AreUrlCaptures`).
-- `NoPattern`: the index is out of range, and the buffers are unchanged.
abbrev pub AreCapturesReported : PatternList → (index : ℕ) → (url base : List ℕ)
    → (old new : List ℕ) → (old_spans new_spans : List GroupSpan)
    → (needed : Sizes) → Status → Type 0
AreCapturesReported patterns index url base old new old_spans new_spans needed statuses.NoPattern =
    (slice_get patterns index ≡ None) × (new ≡ old) × (new_spans ≡ old_spans)
AreCapturesReported patterns index url base old new old_spans new_spans needed status =
    (pattern : UrlPattern PatternRegexp) × (slice_get patterns index ≡ Some pattern)
    × AreUrlCaptures (pattern_view pattern) url base old new old_spans new_spans needed status

-- ---- first matches

-- The pattern at `index` is the first of the list that matches the URL `url` with the base URL
-- `base`, and `groups` are the groups of its match.
pub record AreFirstGroupsOf (patterns : PatternList) (url base : List ℕ) (index : ℕ)
    (groups : List NumberedGroup) : Type 0 where
  pub parts : Parts
  pub pattern : PatternView PatternRegexp
  pub result : ComponentName → ResultView
  pub captures : ComponentName → List (List ℕ × Option (List ℕ))
  pub is_url : IsUrlUnderBase url base parts
  pub is_there : slice_get (patterns_view patterns) index ≡ Some pattern
  pub is_first : IsFirstMatch pattern_result (patterns_view patterns) (match_inputs.Url parts)
      (Some (index, result))
  pub are_captures : AreGroupsInOrder pattern_result pattern (texts_of_url parts) captures
  pub are_groups : groups ≡ numbered_groups captures components

-- The outcome of writing the index and the groups of the first match of the URL `url` with the base
-- URL `base`. `Done`, `TooSmall`: `new_index` is the index, and the groups are as in
-- `AreSpansWritten`. Any other status says why there is no match (`IsFirstReported`), and index and
-- buffers are unchanged; or it is `OutOfMemory`, and the groups of the match by the pattern at
-- `new_index` need more room than a size can say.
abbrev pub AreFirstCaptures : PatternList → (url base : List ℕ) → (old_index new_index : ℕ)
    → (old new : List ℕ) → (old_spans new_spans : List GroupSpan)
    → (needed : Sizes) → Status → Type 0
AreFirstCaptures patterns url base old_index new_index old new old_spans new_spans needed
    statuses.Done =
    (groups : List NumberedGroup) × AreFirstGroupsOf patterns url base new_index groups
    × AreSpansWritten groups old new old_spans new_spans needed statuses.Done
AreFirstCaptures patterns url base old_index new_index old new old_spans new_spans needed
    statuses.TooSmall =
    (groups : List NumberedGroup) × AreFirstGroupsOf patterns url base new_index groups
    × AreSpansWritten groups old new old_spans new_spans needed statuses.TooSmall
AreFirstCaptures patterns url base old_index new_index old new old_spans new_spans needed
    statuses.OutOfMemory =
    ((new_index ≡ old_index) × (new ≡ old) × (new_spans ≡ old_spans))
    ⊎ ((groups : List NumberedGroup) × AreFirstGroupsOf patterns url base new_index groups
    × ExceedSizes no_sizes groups)
AreFirstCaptures patterns url base old_index new_index old new old_spans new_spans needed status =
    IsFirstReported patterns url base old_index new_index status
    × (new ≡ old)
    × (new_spans ≡ old_spans)

-- `AreFirstCaptures` for the patterns that a handle keeps.
abbrev pub AreFirstInBox : Option (Box PatternBox Global)
    → (url base : List ℕ) → (old_index new_index : ℕ) → (old new : List ℕ)
    → (old_spans new_spans : List GroupSpan) → (needed : Sizes) → Status → Type 0
AreFirstInBox kept url base old_index new_index old new old_spans new_spans needed status =
    AreFirstCaptures (boxed_patterns kept) url base old_index new_index old new old_spans new_spans
    needed status
