-- Numbers of components, the component that does not match a URL, and whether a pattern has a
-- custom regular expression, as reported to C.
use Rattle.std.specs.Prelude.{◌≡◌, ℕ, true, false, List, slice_get, None, Some}
use Rattle.url.specs.Parts.{Parts}
use Rattle.urlpattern.specs.Eight.{components}
use Rattle.urlpattern.specs.Patterns.{PatternView, has_regexp_groups, pattern_view}
use Rattle.urlpattern_ffi.specs.Calls.{IsNoUrl, IsUrlUnderBase}
use Rattle.urlpattern_ffi.specs.KeptPatterns.{PatternList}
use Rattle.urlpattern_ffi.specs.declared.status.Status.{Status}
use Rattle.urlpattern_ffi.specs.declared.status.Status.TheVariants as statuses
use Rattle.urlpattern_components.specs.declared.eight.ComponentName.{ComponentName}
use Rattle.urlpattern_components.specs.declared.eight.ComponentName.TheVariants as names
use Rattle.urlpattern_engine.specs.PatternRegexps.{pattern_result}
use Rattle.urlpattern_engine.specs.declared.pattern_regexp.PatternRegexp.{PatternRegexp}
use Rattle.urlpattern_init.specs.Inheritance.{texts_of_url}
use Rattle.urlpattern_pattern.specs.Mismatch.{FindsMismatch}
use Rattle.urlpattern_pattern.specs.UrlPatterns.{UrlPattern}

-- The number that is reported in place of a component if there is none.
abbrev pub no_component : ℕ
no_component = 8

-- The number of a component: its place in the order of the standard.
abbrev pub component_number : ComponentName → ℕ
component_number names.Protocol = 0
component_number names.Username = 1
component_number names.Password = 2
component_number names.Hostname = 3
component_number names.Port = 4
component_number names.Pathname = 5
component_number names.Search = 6
component_number names.Hash = 7

-- `number` is the number of the first component of the pattern that does not match the URL `text`
-- with the base URL `base`.
abbrev pub IsMismatchNumber : PatternView PatternRegexp → (text base : List ℕ) → (number : ℕ)
    → Type 0
IsMismatchNumber pattern text base number =
    (url : Parts) × (name : ComponentName)
    × IsUrlUnderBase text base url
    × (slice_get components number ≡ Some name)
    × FindsMismatch pattern_result pattern (texts_of_url url) (Some name)

-- The outcome of looking for a component that does not match the URL `text` with the base URL
-- `base`. `Done`: each matches. `NoMatch`: `number` is the number of the first that does not match.
-- Any other status is as in `IsNoUrl`. Unless `NoMatch`, `number` is `no_component`.
abbrev pub IsUrlMismatched : PatternView PatternRegexp → (text base : List ℕ) → (number : ℕ)
    → Status → Type 0
IsUrlMismatched pattern text base number statuses.Done =
    (number ≡ no_component)
    × ((url : Parts) × IsUrlUnderBase text base url
    × FindsMismatch pattern_result pattern (texts_of_url url) None)
IsUrlMismatched pattern text base number statuses.NoMatch =
    IsMismatchNumber pattern text base number
IsUrlMismatched pattern text base number status = (number ≡ no_component) × IsNoUrl text base status

-- The outcome of looking for a component of the pattern at `index` that does not match
-- (`IsUrlMismatched`). `NoPattern`: the index is out of range.
abbrev pub IsMismatchReported : PatternList → (index : ℕ) → (text base : List ℕ)
    → (number : ℕ) → Status → Type 0
IsMismatchReported patterns index text base number statuses.NoPattern =
    (slice_get patterns index ≡ None) × (number ≡ no_component)
IsMismatchReported patterns index text base number status =
    (pattern : UrlPattern PatternRegexp) × (slice_get patterns index ≡ Some pattern)
    × IsUrlMismatched (pattern_view pattern) text base number status

-- Whether the pattern at `index` has a custom regular expression: `Done` if it has one, `NoMatch`
-- if it has none, `NoPattern` if the index is out of range.
abbrev pub IsCustomReported : PatternList → (index : ℕ) → Status → Type 0
IsCustomReported patterns index statuses.NoPattern = slice_get patterns index ≡ None
IsCustomReported patterns index statuses.Done =
    (pattern : UrlPattern PatternRegexp) × (slice_get patterns index ≡ Some pattern)
    × (has_regexp_groups (pattern_view pattern) ≡ true)
IsCustomReported patterns index statuses.NoMatch =
    (pattern : UrlPattern PatternRegexp) × (slice_get patterns index ≡ Some pattern)
    × (has_regexp_groups (pattern_view pattern) ≡ false)
IsCustomReported patterns index status = ⊥
