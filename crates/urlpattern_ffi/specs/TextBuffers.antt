-- Texts that calls write to memory that C owns.
use Rattle.std.specs.Prelude.{◌≡◌, ◌⊎◌, ◌++◌, ◌<◌, ◌≤◌, ℕ, List, length, drop, encode_utf8_all, slice_get, Option, None, Some, option_and_then, option_map}
use Rattle.serde_json.specs.Data.{Data}
use Rattle.serde_json.specs.Read.{read}
use Rattle.serde_json.specs.Written.{compact_text}
use Rattle.url.specs.Parts.{Parts}
use Rattle.urlpattern.specs.Eight.{components}
use Rattle.urlpattern.specs.Match.{IsMatch}
use Rattle.urlpattern.specs.Patterns.{PatternView, pattern_view}
use Rattle.urlpattern.specs.ResultViews.{result_view}
use Rattle.urlpattern_ffi.specs.Calls.{IsUrlUnderBase, IsUrlTested}
use Rattle.urlpattern_ffi.specs.KeptPatterns.{PatternList}
use Rattle.urlpattern_ffi.specs.declared.status.Status.{Status}
use Rattle.urlpattern_ffi.specs.declared.status.Status.TheVariants as statuses
use Rattle.urlpattern_components.specs.declared.eight.ComponentName.{ComponentName}
use Rattle.urlpattern_engine.specs.PatternRegexps.{pattern_result}
use Rattle.urlpattern_engine.specs.declared.pattern_regexp.PatternRegexp.{PatternRegexp}
use Rattle.urlpattern_init.specs.declared.init.UrlPatternMatchInput.TheVariants as match_inputs
use Rattle.urlpattern_matches.specs.BorrowedMatches.{IsCopyOfMatch}
use Rattle.urlpattern_matches.specs.ResultJson.{IsResultTree, plain_results_view}
use Rattle.urlpattern_matches.specs.declared.captures.UrlPatternCaptures.{UrlPatternCaptures}
use Rattle.urlpattern_matches.specs.declared.result.UrlPatternResult.{UrlPatternResult}
use Rattle.urlpattern_pattern.specs.UrlPatterns.{UrlPattern}

-- The outcome of writing a text to a buffer. `Done`: the buffer begins with the text, and the rest
-- is unchanged. `TooSmall`: the text is longer than the buffer, which is unchanged.
abbrev pub IsWrittenTo : (text old new : List ℕ) → Status → Type 0
IsWrittenTo text old new statuses.Done =
    (length text ≤ length old) × (new ≡ text ++ drop (length text) old)
IsWrittenTo text old new statuses.TooSmall = (length old < length text) × (new ≡ old)
IsWrittenTo text old new status = ⊥

-- Some text for which `IsText` is true has `needed` bytes, and the status is the outcome of writing
-- it to the buffer (`IsWrittenTo`).
abbrev pub WritesToBuffer : (IsText : List ℕ → Type 0) → (old new : List ℕ) → (needed : ℕ) → Status
    → Type 0
WritesToBuffer IsText old new needed status =
    (text : List ℕ) × IsText text × (needed ≡ length text) × IsWrittenTo text old new status

-- ---- components

-- `text` is the pattern text of a component of the pattern at `index`, in UTF-8. `component` is the
-- number of the component.
abbrev pub IsTextOfComponent : List (UrlPattern PatternRegexp)
    → (index component : ℕ) → (text : List ℕ) → Type 0
IsTextOfComponent patterns index component text =
    (pattern : UrlPattern PatternRegexp) × (name : ComponentName)
    × (slice_get patterns index ≡ Some pattern)
    × (slice_get components component ≡ Some name)
    × (text ≡ encode_utf8_all (pattern_view pattern name).pattern_string)

-- The outcome of writing the pattern text of a component of the pattern at `index`. `NoPattern`: no
-- pattern has this index, or no component this number.
abbrev pub IsComponentWritten : List (UrlPattern PatternRegexp)
    → (index component : ℕ) → (old new : List ℕ) → (needed : ℕ) → Status → Type 0
IsComponentWritten patterns index component old new needed statuses.NoPattern =
    ((slice_get patterns index ≡ None) ⊎ (slice_get components component ≡ None)) × (new ≡ old)
IsComponentWritten patterns index component old new needed status =
    WritesToBuffer (IsTextOfComponent patterns index component) old new needed status

-- ---- names of groups

-- The name of a group of the pattern at `index`, given the number of its component and its number
-- in the component. `None`: there is no such group.
abbrev pub group_name_at : PatternList → (index component group : ℕ) → Option (List ℕ)
group_name_at patterns index component group =
    option_and_then (λ pattern.
    option_and_then (λ name. slice_get (pattern_view pattern name).group_name_list group)
    (slice_get components component))
    (slice_get patterns index)

-- The outcome of writing the name of a group (`group_name_at`), in UTF-8. `NoPattern`: there is no
-- such group.
abbrev pub IsGroupNameWritten : PatternList → (index component group : ℕ) → (old new : List ℕ)
    → (needed : ℕ) → Status → Type 0
IsGroupNameWritten patterns index component group old new needed statuses.NoPattern =
    (group_name_at patterns index component group ≡ None) × (new ≡ old)
IsGroupNameWritten patterns index component group old new needed status =
    WritesToBuffer (λ text.
    Some text ≡ option_map encode_utf8_all (group_name_at patterns index component group)) old new
    needed status

-- ---- matches

-- `text` is the tree of the result as JSON, with no white space between tokens, and reads as the
-- tree.
abbrev pub IsResultText : UrlPatternResult → (text : List ℕ) → Type 0
IsResultText result text =
    (tree : Data) × IsResultTree (plain_results_view result) tree × (text ≡ compact_text tree)
    × (read text ≡ Some tree)

-- `text` is the JSON of an owned copy of the match (`IsResultText`).
abbrev pub IsMatchText : UrlPatternCaptures → (text : List ℕ) → Type 0
IsMatchText found text =
    (result : UrlPatternResult) × IsCopyOfMatch found result × IsResultText result text

-- `text` is the JSON of the pattern's match of the URL `url` with the base URL `base`.
pub record IsJsonOfMatch (pattern : PatternView PatternRegexp) (url base text : List ℕ) : Type 0
  where
    pub parts : Parts
    pub result : UrlPatternResult
    pub is_url : IsUrlUnderBase url base parts
    pub is_match : IsMatch pattern_result pattern (match_inputs.Url parts) (result_view result)
    pub is_text : IsResultText result text

-- The outcome of writing the pattern's match of the URL `url` with the base URL `base` as JSON.
-- `Done`: it is written. `TooSmall`: the buffer has no room for it. Any other status says why there
-- is no match (`IsUrlTested`), and the buffer is unchanged.
abbrev pub IsUrlExecuted : PatternView PatternRegexp → (url base : List ℕ) → (old new : List ℕ)
    → (needed : ℕ) → Status → Type 0
IsUrlExecuted pattern url base old new needed statuses.Done =
    WritesToBuffer (IsJsonOfMatch pattern url base) old new needed statuses.Done
IsUrlExecuted pattern url base old new needed statuses.TooSmall =
    WritesToBuffer (IsJsonOfMatch pattern url base) old new needed statuses.TooSmall
IsUrlExecuted pattern url base old new needed status =
    IsUrlTested pattern url base status × (new ≡ old)

-- The outcome of writing the match by the pattern at `index` as JSON (`IsUrlExecuted`).
-- `NoPattern`: the index is out of range.
abbrev pub IsExecReported : List (UrlPattern PatternRegexp) → (index : ℕ) → (url base : List ℕ)
    → (old new : List ℕ) → (needed : ℕ) → Status → Type 0
IsExecReported patterns index url base old new needed statuses.NoPattern =
    (slice_get patterns index ≡ None) × (new ≡ old)
IsExecReported patterns index url base old new needed status =
    (pattern : UrlPattern PatternRegexp) × (slice_get patterns index ≡ Some pattern)
    × IsUrlExecuted (pattern_view pattern) url base old new needed status
