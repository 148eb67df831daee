-- Inits in JSON that patterns are matched against. Texts are bytes.
use Rattle.std.specs.Prelude.{◌≡◌, ◌⊎◌, ◌≤◌, ℕ, List, length, slice_get, None, Some, Ok}
use Rattle.urlpattern.specs.Errors.{ErrorView}
use Rattle.urlpattern.specs.Patterns.{PatternView, pattern_view}
use Rattle.urlpattern_canonical.specs.Canonical.{long_text}
use Rattle.urlpattern_components.specs.Eight.{Texts}
use Rattle.urlpattern_engine.specs.PatternRegexps.{pattern_result}
use Rattle.urlpattern_engine.specs.declared.pattern_regexp.PatternRegexp.{PatternRegexp}
use Rattle.urlpattern_ffi.specs.Inits.{HasRejectedBase, IsInitOfJson, IsUnread}
use Rattle.urlpattern_ffi.specs.KeptPatterns.{PatternList}
use Rattle.urlpattern_ffi.specs.TextBuffers.{IsResultText, WritesToBuffer}
use Rattle.urlpattern_ffi.specs.declared.status.Status.{Status}
use Rattle.urlpattern_ffi.specs.declared.status.Status.TheVariants as statuses
use Rattle.urlpattern_init.specs.declared.init.UrlPatternInit.{UrlPatternInit}
use Rattle.urlpattern_init.specs.declared.init.UrlPatternMatchInput.TheVariants as match_inputs
use Rattle.urlpattern_matches.specs.MatchInput.{IsNoInput, input_texts}
use Rattle.urlpattern_matches.specs.ResultViews.{result_view}
use Rattle.urlpattern_matches.specs.declared.result.UrlPatternResult.{UrlPatternResult}
use Rattle.urlpattern_pattern.specs.Match.{DoesNotMatch, IsMatchOf}
use Rattle.urlpattern_pattern.specs.UrlPatterns.{UrlPattern}

-- ---- texts

-- `texts` are the eight texts of the init in JSON, with what it inherits from its base URL.
abbrev pub AreTextsOfInit : (json : List ℕ) → Texts → Type 0
AreTextsOfInit json texts =
    (init : UrlPatternInit) × IsInitOfJson json init
    × (input_texts (match_inputs.Init init) ≡ Ok texts)

-- The status says why there is no init. `NoUrl`: its base URL is rejected. Any other status is as
-- in `IsUnread`.
abbrev pub IsNoMatchedInit : (json : List ℕ) → Status → Type 0
IsNoMatchedInit json statuses.NoUrl = (error : ErrorView) × HasRejectedBase json error
IsNoMatchedInit json status = IsUnread json status

-- The status says why there are no eight texts of an init. `TooLong`: the JSON has `long_text`
-- bytes or more. `NoUrl`: `url` rejects a text of the init or its base URL, or a text may be too
-- long for `url`. Any other status is as in `IsUnread`.
abbrev pub AreNoTextsOfInit : (json : List ℕ) → Status → Type 0
AreNoTextsOfInit json statuses.TooLong = long_text ≤ length json
AreNoTextsOfInit json statuses.NoUrl =
    IsNoMatchedInit json statuses.NoUrl
    ⊎ ((init : UrlPatternInit) × IsInitOfJson json init × IsNoInput (match_inputs.Init init))
AreNoTextsOfInit json status = IsUnread json status

-- ---- matches

-- `text` is the JSON of the pattern's match of the init in JSON.
pub record IsJsonOfInitMatch (pattern : PatternView PatternRegexp) (json text : List ℕ) : Type 0
  where
    pub texts : Texts
    pub result : UrlPatternResult
    pub are_texts : AreTextsOfInit json texts
    pub is_match : IsMatchOf pattern_result pattern texts (result_view result)
    pub is_text : IsResultText result text

-- The status says why the pattern has no match of the init in JSON. `NoMatch`: the init has texts,
-- and the pattern does not match them. Any other status is as in `AreNoTextsOfInit`.
abbrev pub IsInitUnmatched : PatternView PatternRegexp → (json : List ℕ) → Status → Type 0
IsInitUnmatched pattern json statuses.NoMatch =
    (texts : Texts) × AreTextsOfInit json texts × DoesNotMatch pattern_result pattern texts
IsInitUnmatched pattern json status = AreNoTextsOfInit json status

-- The outcome of writing the pattern's match of the init as JSON. `Done`: it is written.
-- `TooSmall`: the buffer has no room for it. Any other status says why there is no match
-- (`IsInitUnmatched`), and the buffer is unchanged.
abbrev pub IsInitExecuted : PatternView PatternRegexp → (json : List ℕ) → (old new : List ℕ)
    → (needed : ℕ) → Status → Type 0
IsInitExecuted pattern json old new needed statuses.Done =
    WritesToBuffer (IsJsonOfInitMatch pattern json) old new needed statuses.Done
IsInitExecuted pattern json old new needed statuses.TooSmall =
    WritesToBuffer (IsJsonOfInitMatch pattern json) old new needed statuses.TooSmall
IsInitExecuted pattern json old new needed status =
    IsInitUnmatched pattern json status × (new ≡ old)

-- The outcome of writing the match by the pattern at `index` as JSON (`IsInitExecuted`).
-- `NoPattern`: the index is out of range.
abbrev pub IsInitExecReported : PatternList → (index : ℕ) → (json : List ℕ) → (old new : List ℕ)
    → (needed : ℕ) → Status → Type 0
IsInitExecReported patterns index json old new needed statuses.NoPattern =
    (slice_get patterns index ≡ None) × (new ≡ old)
IsInitExecReported patterns index json old new needed status =
    (pattern : UrlPattern PatternRegexp) × (slice_get patterns index ≡ Some pattern)
    × IsInitExecuted (pattern_view pattern) json old new needed status
