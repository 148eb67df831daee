-- Whether a pattern covers another one, as reported to C.
use Rattle.std.specs.Prelude.{◌≡◌, ◌⊎◌, ℕ, slice_get, None, Some}
use Rattle.urlpattern_ffi.specs.KeptPatterns.{PatternList}
use Rattle.urlpattern_ffi.specs.Mismatches.{component_number, no_component}
use Rattle.urlpattern_ffi.specs.declared.status.Status.{Status}
use Rattle.urlpattern_ffi.specs.declared.status.Status.TheVariants as statuses
use Rattle.urlpattern_compare.specs.declared.coverage.Reason.{Reason}
use Rattle.urlpattern_components.specs.declared.eight.ComponentName.{ComponentName}
use Rattle.urlpattern_engine.specs.declared.pattern_regexp.PatternRegexp.{PatternRegexp}
use Rattle.urlpattern_pattern.specs.PatternComparing.{LackParts, OfPartsOfBoth}
use Rattle.urlpattern_pattern.specs.UrlPatterns.{UrlPattern}
use Rattle.urlpattern_pattern.specs.declared.pattern.compare.CompareError.TheVariants.{NoParts}
use Rattle.urlpattern_compare.specs.Comparing.{IsCovered, IsParting, IsReasonIn}
use Rattle.urlpattern_compare.specs.declared.pattern_parts.{Parting.Parting, PatternParts.PatternParts}

-- By their parts, the asked pattern matches a text of the component with this number, and the other
-- one does not.
abbrev pub HasPartingIn : (number : ℕ) → (parts asked : PatternParts) → Type 0
HasPartingIn number parts asked =
    (parting : Parting) × IsParting parts asked parting
    × (number ≡ component_number parting.component)

-- Whether the pattern with `parts` covers the asked one is not known, because of the component with
-- this number, and no other component decides.
abbrev pub IsUnknownIn : (number : ℕ) → (parts asked : PatternParts) → Type 0
IsUnknownIn number parts asked =
    (name : ComponentName) × (reason : Reason)
    × IsReasonIn parts asked name reason
    × (number ≡ component_number name)

-- The outcome of comparing two patterns by their parts. `Done`: `pattern` covers `asked`.
-- `NoMatch`: it does not, and `number` is that of a component in which they differ. `Unknown`: it
-- is not known because of the component `number`, or, with `no_component`, because a pattern has no
-- parts. `OutOfMemory`: `number` is `no_component`.
abbrev pub AreCompared : (pattern asked : UrlPattern PatternRegexp) → (number : ℕ) → Status → Type 0
AreCompared pattern asked number statuses.Done =
    (number ≡ no_component) × OfPartsOfBoth pattern asked IsCovered
AreCompared pattern asked number statuses.NoMatch =
    OfPartsOfBoth pattern asked (HasPartingIn number)
AreCompared pattern asked number statuses.Unknown =
    OfPartsOfBoth pattern asked (IsUnknownIn number)
    ⊎ ((number ≡ no_component) × LackParts pattern asked NoParts)
AreCompared pattern asked number statuses.OutOfMemory = number ≡ no_component
AreCompared pattern asked number status = ⊥

-- The outcome of comparing the pattern of `patterns` at `index` with the asked one, the pattern of
-- `others` at `asked` (`AreCompared`). `NoPattern`: an index is out of range.
abbrev pub IsCoveringReported : PatternList → (index : ℕ) → (others : PatternList)
    → (asked : ℕ) → (number : ℕ) → Status → Type 0
IsCoveringReported patterns index others asked number statuses.NoPattern =
    ((slice_get patterns index ≡ None) ⊎ (slice_get others asked ≡ None)) × (number ≡ no_component)
IsCoveringReported patterns index others asked number status =
    (pattern other : UrlPattern PatternRegexp) × (slice_get patterns index ≡ Some pattern)
    × (slice_get others asked ≡ Some other)
    × AreCompared pattern other number status
