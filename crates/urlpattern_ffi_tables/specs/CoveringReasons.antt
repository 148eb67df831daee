-- Why it is not known whether a pattern covers another one, as reported to C.
use Rattle.std.specs.Prelude.{◌≡◌, ◌⊎◌, ℕ, None, Some, slice_get}
use Rattle.urlpattern_compare.specs.Comparing.{IsCovered, IsParting, IsReasonIn}
use Rattle.urlpattern_compare.specs.declared.coverage.Reason.{Reason}
use Rattle.urlpattern_compare.specs.declared.coverage.Reason.TheVariants.{CustomExpression, IgnoredCase, TooMany}
use Rattle.urlpattern_compare.specs.declared.pattern_parts.{Parting.Parting, PatternParts.PatternParts}
use Rattle.urlpattern_components.specs.declared.eight.ComponentName.{ComponentName}
use Rattle.urlpattern_engine.specs.declared.pattern_regexp.PatternRegexp.{PatternRegexp}
use Rattle.urlpattern_ffi.specs.KeptPatterns.{PatternList}
use Rattle.urlpattern_ffi.specs.declared.status.Status.{Status}
use Rattle.urlpattern_ffi.specs.declared.status.Status.TheVariants as statuses
use Rattle.urlpattern_pattern.specs.PatternComparing.{LackParts, OfPartsOfBoth}
use Rattle.urlpattern_pattern.specs.UrlPatterns.{UrlPattern}
use Rattle.urlpattern_pattern.specs.declared.pattern.compare.CompareError.TheVariants.{NoParts, OutOfMemory}

-- The number of a reason for C.
abbrev pub reason_number : Reason → ℕ
reason_number CustomExpression = 1
reason_number IgnoredCase = 2
reason_number TooMany = 3

-- Whether the pattern with `parts` covers the asked one is not known, for the reason with this
-- number.
abbrev pub IsUnknownFor : (number : ℕ) → (parts asked : PatternParts) → Type 0
IsUnknownFor number parts asked =
    (name : ComponentName) × (reason : Reason)
    × IsReasonIn parts asked name reason
    × (number ≡ reason_number reason)

-- Whether the pattern with `parts` covers the asked one is known.
abbrev pub IsKnown : (parts asked : PatternParts) → Type 0
IsKnown parts asked =
    IsCovered parts asked ⊎ ((parting : Parting) × IsParting parts asked parting)

-- The outcome of asking why it is not known whether `pattern` covers `asked`. `Done`: `new` is the
-- number of the reason, or 4 if a pattern has no parts. `NoMatch`: it is known, and the number
-- `old` is unchanged. `OutOfMemory`: both patterns have parts, and the number is unchanged.
abbrev pub IsReasonFound : (pattern asked : UrlPattern PatternRegexp) → (old new : ℕ) → Status
    → Type 0
IsReasonFound pattern asked old new statuses.Done =
    OfPartsOfBoth pattern asked (IsUnknownFor new)
    ⊎ ((new ≡ 4) × LackParts pattern asked NoParts)
IsReasonFound pattern asked old new statuses.NoMatch =
    OfPartsOfBoth pattern asked IsKnown × (new ≡ old)
IsReasonFound pattern asked old new statuses.OutOfMemory =
    LackParts pattern asked OutOfMemory × (new ≡ old)
IsReasonFound pattern asked old new status = ⊥

-- The outcome of asking why it is not known whether the pattern of `patterns` at `index` covers the
-- asked one, the pattern of `others` at `asked` (`IsReasonFound`). `NoPattern`: an index is out of
-- range, and the number is unchanged.
abbrev pub IsReasonReported : PatternList → (index : ℕ) → (others : PatternList) → (asked : ℕ)
    → (old new : ℕ) → Status → Type 0
IsReasonReported patterns index others asked old new statuses.NoPattern =
    ((slice_get patterns index ≡ None) ⊎ (slice_get others asked ≡ None)) × (new ≡ old)
IsReasonReported patterns index others asked old new status =
    (pattern other : UrlPattern PatternRegexp) × (slice_get patterns index ≡ Some pattern)
    × (slice_get others asked ≡ Some other)
    × IsReasonFound pattern other old new status
