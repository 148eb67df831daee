-- The captures of eight texts, one for each component: those of a path by itself, or texts that are
-- passed as parts of one text. Texts that are passed are bytes.
use Rattle.std.specs.Prelude.{◌≡◌, ◌≢◌, ◌⊎◌, ℕ, List, [], slice_get, Option, None, Some}
use Rattle.urlpattern.specs.FirstMatch.{CallsEngineBeforeMatch, IsFirstMatchOf, patterns_view}
use Rattle.urlpattern.specs.Patterns.{PatternView, pattern_view}
use Rattle.urlpattern_components.specs.Eight.{Texts, components}
use Rattle.urlpattern_components.specs.declared.eight.ComponentName.{ComponentName}
use Rattle.urlpattern_engine.specs.PatternRegexps.{pattern_result}
use Rattle.urlpattern_engine.specs.declared.pattern_regexp.PatternRegexp.{PatternRegexp}
use Rattle.urlpattern_ffi.specs.GroupSpans.{AreSpansWritten, ExceedSizes, NumberedGroup, no_sizes, numbered_groups}
use Rattle.urlpattern_ffi.specs.KeptPatterns.{PatternList}
use Rattle.urlpattern_ffi.specs.declared.spans.GroupSpan.{GroupSpan}
use Rattle.urlpattern_ffi.specs.declared.spans.Sizes.{Sizes}
use Rattle.urlpattern_ffi.specs.declared.status.Status.{Status}
use Rattle.urlpattern_ffi.specs.declared.status.Status.TheVariants as statuses
use Rattle.urlpattern_matches.specs.ResultViews.{ResultView}
use Rattle.urlpattern_pattern.specs.Match.{AreGroupsInOrder, CallsAnEngine, DoesNotMatch}
use Rattle.urlpattern_pattern.specs.UrlPatterns.{UrlPattern}

-- ---- a pattern

-- `groups` are the groups of the pattern's match of the texts, in the order of the components.
pub record AreGroupsOfTexts (pattern : PatternView PatternRegexp) (texts : Texts)
    (groups : List NumberedGroup) : Type 0 where
  pub captures : ComponentName → List (List ℕ × Option (List ℕ))
  pub are_captures : AreGroupsInOrder pattern_result pattern texts captures
  pub are_groups : groups ≡ numbered_groups captures components

-- The outcome of writing the groups of the pattern's match of the texts. `Done`, `TooSmall`: there
-- is a match, as in `AreSpansWritten`. `NoMatch`: there is none, and the buffers are unchanged.
-- `OutOfMemory`: an engine is called, and the buffers are unchanged; or the groups need more room
-- than a size can say.
abbrev pub AreTextCaptures : PatternView PatternRegexp → Texts → (old new : List ℕ)
    → (old_spans new_spans : List GroupSpan) → (needed : Sizes) → Status → Type 0
AreTextCaptures pattern texts old new old_spans new_spans needed statuses.Done =
    (groups : List NumberedGroup) × AreGroupsOfTexts pattern texts groups
    × AreSpansWritten groups old new old_spans new_spans needed statuses.Done
AreTextCaptures pattern texts old new old_spans new_spans needed statuses.TooSmall =
    (groups : List NumberedGroup) × AreGroupsOfTexts pattern texts groups
    × AreSpansWritten groups old new old_spans new_spans needed statuses.TooSmall
AreTextCaptures pattern texts old new old_spans new_spans needed statuses.NoMatch =
    DoesNotMatch pattern_result pattern texts × (new ≡ old) × (new_spans ≡ old_spans)
AreTextCaptures pattern texts old new old_spans new_spans needed statuses.OutOfMemory =
    (CallsAnEngine pattern_result pattern texts × (new ≡ old) × (new_spans ≡ old_spans))
    ⊎ ((groups : List NumberedGroup) × AreGroupsOfTexts pattern texts groups
    × ExceedSizes no_sizes groups)
AreTextCaptures pattern texts old new old_spans new_spans needed status = ⊥

-- ---- a list

-- The pattern at `index` is the first of the list that matches the texts, and `groups` are the
-- groups of its match.
pub record AreFirstGroupsOfTexts (patterns : PatternList) (texts : Texts) (index : ℕ)
    (groups : List NumberedGroup) : Type 0 where
  pub pattern : PatternView PatternRegexp
  pub result : ComponentName → ResultView
  pub captures : ComponentName → List (List ℕ × Option (List ℕ))
  pub is_there : slice_get (patterns_view patterns) index ≡ Some pattern
  pub is_first : IsFirstMatchOf pattern_result (patterns_view patterns) texts
      (Some (index, result))
  pub are_captures : AreGroupsInOrder pattern_result pattern texts captures
  pub are_groups : groups ≡ numbered_groups captures components

-- The outcome of writing the index and the groups of the first match of the texts. `Done`,
-- `TooSmall`: `new_index` is the index, and the groups are as in `AreSpansWritten`. `NoMatch`: no
-- pattern matches, and index and buffers are unchanged. `OutOfMemory`: an engine is called before
-- any pattern matches, and index and buffers are unchanged; or the groups need more room than a
-- size can say.
abbrev pub AreFirstTextCaptures : PatternList → Texts → (old_index new_index : ℕ)
    → (old new : List ℕ) → (old_spans new_spans : List GroupSpan) → (needed : Sizes) → Status
    → Type 0
AreFirstTextCaptures patterns texts old_index new_index old new old_spans new_spans needed
    statuses.Done =
    (groups : List NumberedGroup) × AreFirstGroupsOfTexts patterns texts new_index groups
    × AreSpansWritten groups old new old_spans new_spans needed statuses.Done
AreFirstTextCaptures patterns texts old_index new_index old new old_spans new_spans needed
    statuses.TooSmall =
    (groups : List NumberedGroup) × AreFirstGroupsOfTexts patterns texts new_index groups
    × AreSpansWritten groups old new old_spans new_spans needed statuses.TooSmall
AreFirstTextCaptures patterns texts old_index new_index old new old_spans new_spans needed
    statuses.NoMatch =
    IsFirstMatchOf pattern_result (patterns_view patterns) texts None
    × (new_index ≡ old_index) × (new ≡ old) × (new_spans ≡ old_spans)
AreFirstTextCaptures patterns texts old_index new_index old new old_spans new_spans needed
    statuses.OutOfMemory =
    (CallsEngineBeforeMatch pattern_result (patterns_view patterns) texts
    × (new_index ≡ old_index) × (new ≡ old) × (new_spans ≡ old_spans))
    ⊎ ((groups : List NumberedGroup) × AreFirstGroupsOfTexts patterns texts new_index groups
    × ExceedSizes no_sizes groups)
AreFirstTextCaptures patterns texts old_index new_index old new old_spans new_spans needed status =
    ⊥

-- ---- what is passed

-- The outcome of writing the groups of the match by the pattern at `index` of what is passed.
-- `NoPattern`: the index is out of range. Else either the texts for which `AreRead` is true are
-- matched (`AreTextCaptures`), or the status says why none are read (`AreUnread`). For `NoPattern`,
-- and where none are read, the buffers are unchanged.
abbrev pub AreCapturesOf : (AreRead : Texts → Type 0) → (AreUnread : Status → Type 0)
    → PatternList → (index : ℕ) → (old new : List ℕ) → (old_spans new_spans : List GroupSpan)
    → (needed : Sizes) → Status → Type 0
AreCapturesOf AreRead AreUnread patterns index old new old_spans new_spans needed
    statuses.NoPattern =
    (slice_get patterns index ≡ None) × (new ≡ old) × (new_spans ≡ old_spans)
AreCapturesOf AreRead AreUnread patterns index old new old_spans new_spans needed status =
    (pattern : UrlPattern PatternRegexp) × (slice_get patterns index ≡ Some pattern)
    × (((texts : Texts) × AreRead texts
    × AreTextCaptures (pattern_view pattern) texts old new old_spans new_spans needed status)
    ⊎ (AreUnread status × (new ≡ old) × (new_spans ≡ old_spans)))

-- The outcome of writing the index and the groups of the first match of what is passed.
-- `NoPattern`, and only this: the list is empty. Else either the texts for which `AreRead` is true
-- are matched (`AreFirstTextCaptures`), or the status says why none are read (`AreUnread`). For
-- `NoPattern`, and where none are read, index and buffers are unchanged.
abbrev pub AreFirstCapturesOf : (AreRead : Texts → Type 0) → (AreUnread : Status → Type 0)
    → PatternList → (old_index new_index : ℕ) → (old new : List ℕ)
    → (old_spans new_spans : List GroupSpan) → (needed : Sizes) → Status → Type 0
AreFirstCapturesOf AreRead AreUnread patterns old_index new_index old new old_spans new_spans needed
    statuses.NoPattern =
    (patterns ≡ []) × (new_index ≡ old_index) × (new ≡ old) × (new_spans ≡ old_spans)
AreFirstCapturesOf AreRead AreUnread patterns old_index new_index old new old_spans new_spans needed
    status =
    (patterns ≢ [])
    × (((texts : Texts) × AreRead texts
    × AreFirstTextCaptures patterns texts old_index new_index old new old_spans new_spans needed
    status)
    ⊎ (AreUnread status × (new_index ≡ old_index) × (new ≡ old) × (new_spans ≡ old_spans)))
