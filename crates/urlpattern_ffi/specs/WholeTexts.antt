-- Patterns written as one text, and compared for being the same, as reported to C.
use Rattle.std.specs.Prelude.{◌≡◌, ◌⊎◌, ℕ, List, slice_get, None, Some}
use Rattle.urlpattern_compare.specs.EqualParts.{AreEqualParts}
use Rattle.urlpattern_engine.specs.PatternRegexps.{pattern_engine}
use Rattle.urlpattern_engine.specs.declared.pattern_regexp.PatternRegexp.{PatternRegexp}
use Rattle.urlpattern_ffi.specs.KeptPatterns.{PatternList}
use Rattle.urlpattern_ffi.specs.TextBuffers.{WritesToBuffer}
use Rattle.urlpattern_ffi.specs.declared.status.Status.{Status}
use Rattle.urlpattern_ffi.specs.declared.status.Status.TheVariants as statuses
use Rattle.urlpattern_pattern.specs.PatternComparing.{LackParts, OfPartsOfBoth}
use Rattle.urlpattern_pattern.specs.ReadBack.{IsConstructorString}
use Rattle.urlpattern_pattern.specs.UrlPatterns.{UrlPattern}
use Rattle.urlpattern_pattern.specs.declared.pattern.compare.CompareError.TheVariants.{NoParts}

-- ---- one text

-- `text` is the constructor string of the pattern.
abbrev pub IsTextOf : UrlPattern PatternRegexp → (text : List ℕ) → Type 0
IsTextOf pattern text = IsConstructorString pattern_engine pattern (Some text)

-- The outcome of writing the constructor string of the pattern. `Done`: it is written. `TooSmall`:
-- the buffer has no room for it. `NoMatch`: the pattern has none.
abbrev pub IsWholeWritten : UrlPattern PatternRegexp → (old new : List ℕ) → (needed : ℕ) → Status
    → Type 0
IsWholeWritten pattern old new needed statuses.Done =
    WritesToBuffer (IsTextOf pattern) old new needed statuses.Done
IsWholeWritten pattern old new needed statuses.TooSmall =
    WritesToBuffer (IsTextOf pattern) old new needed statuses.TooSmall
IsWholeWritten pattern old new needed statuses.NoMatch =
    IsConstructorString pattern_engine pattern None × (new ≡ old)
IsWholeWritten pattern old new needed statuses.OutOfMemory = new ≡ old
IsWholeWritten pattern old new needed status = ⊥

-- The outcome of writing the constructor string of the pattern at `index` (`IsWholeWritten`).
-- `NoPattern`: the index is out of range.
abbrev pub IsTextReported : PatternList → (index : ℕ) → (old new : List ℕ) → (needed : ℕ) → Status
    → Type 0
IsTextReported patterns index old new needed statuses.NoPattern =
    (slice_get patterns index ≡ None) × (new ≡ old)
IsTextReported patterns index old new needed status =
    (pattern : UrlPattern PatternRegexp) × (slice_get patterns index ≡ Some pattern)
    × IsWholeWritten pattern old new needed status

-- ---- the same pattern

-- The outcome of comparing two patterns for having equal parts and options. `Done`: they have.
-- `NoMatch`: they have not. `Unknown`: one of them has no parts.
abbrev pub AreSame : (pattern other : UrlPattern PatternRegexp) → Status → Type 0
AreSame pattern other statuses.Done = OfPartsOfBoth pattern other AreEqualParts
AreSame pattern other statuses.NoMatch =
    OfPartsOfBoth pattern other (λ parts others. ¬ AreEqualParts parts others)
AreSame pattern other statuses.Unknown = LackParts pattern other NoParts
AreSame pattern other status = ⊥

-- The outcome of comparing the pattern of `patterns` at `index` with that of `others` at `other`
-- (`AreSame`). `NoPattern`: an index is out of range.
abbrev pub IsSameReported : PatternList → (index : ℕ) → (others : PatternList) → (other : ℕ)
    → Status → Type 0
IsSameReported patterns index others other statuses.NoPattern =
    (slice_get patterns index ≡ None) ⊎ (slice_get others other ≡ None)
IsSameReported patterns index others other status =
    (pattern compared : UrlPattern PatternRegexp) × (slice_get patterns index ≡ Some pattern)
    × (slice_get others other ≡ Some compared)
    × AreSame pattern compared status
