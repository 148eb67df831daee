-- Whether each component of a pattern has a meaning, as reported to C.
use Rattle.std.specs.Prelude.{◌≡◌, ℕ, slice_get, None, Some}
use Rattle.urlpattern_ffi.specs.KeptPatterns.{PatternList}
use Rattle.urlpattern_ffi.specs.declared.status.Status.{Status}
use Rattle.urlpattern_ffi.specs.declared.status.Status.TheVariants as statuses
use Rattle.urlpattern_components.specs.declared.eight.ComponentName.{ComponentName}
use Rattle.urlpattern_engine.specs.declared.pattern_regexp.PatternRegexp.{PatternRegexp}
use Rattle.urlpattern_pattern.specs.KeptMeanings.{HasMeaningByCaseIn}
use Rattle.urlpattern_pattern.specs.UrlPatterns.{UrlPattern}

-- The outcome of deciding whether each component of the pattern has a meaning. `Done`: each has
-- one. `NoMatch`: not each has one.
abbrev pub IsMeaningDecided : UrlPattern PatternRegexp → Status → Type 0
IsMeaningDecided pattern statuses.Done = (name : ComponentName) → HasMeaningByCaseIn pattern name
IsMeaningDecided pattern statuses.NoMatch =
    ¬ ((name : ComponentName) → HasMeaningByCaseIn pattern name)
IsMeaningDecided pattern statuses.OutOfMemory = Unit {0}
IsMeaningDecided pattern status = ⊥

-- The outcome of deciding whether each component of the pattern at `index` has a meaning
-- (`IsMeaningDecided`). `NoPattern`: the index is out of range.
abbrev pub IsMeaningReported : PatternList → (index : ℕ) → Status → Type 0
IsMeaningReported patterns index statuses.NoPattern = slice_get patterns index ≡ None
IsMeaningReported patterns index status =
    (pattern : UrlPattern PatternRegexp) × (slice_get patterns index ≡ Some pattern)
    × IsMeaningDecided pattern status
