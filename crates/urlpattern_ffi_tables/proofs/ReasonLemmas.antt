-- Lemmas on the reasons of coverings.
use Rattle.std.proofs.Common.{◌≡◌, ℕ}
use Rattle.std.specs.Prelude.{Some, slice_get}
use Rattle.urlpattern_engine.specs.declared.pattern_regexp.PatternRegexp.{PatternRegexp}
use Rattle.urlpattern_ffi.specs.KeptPatterns.{PatternList}
use Rattle.urlpattern_ffi.specs.declared.status.Status.{Status}
use Rattle.urlpattern_ffi.specs.declared.status.Status.TheVariants as statuses
use Rattle.urlpattern_ffi_tables.specs.CoveringReasons.{IsReasonFound, IsReasonReported}
use Rattle.urlpattern_pattern.specs.UrlPatterns.{UrlPattern}

-- The outcome for two patterns is the one for the patterns at their indices.
pub reason_reported : (patterns : PatternList) (index : ℕ) (others : PatternList) (asked : ℕ) (pattern other : UrlPattern PatternRegexp) (old new : ℕ) (status : Status)
    → slice_get patterns index ≡ Some pattern → slice_get others asked ≡ Some other → IsReasonFound pattern other old new status
    → IsReasonReported patterns index others asked old new status
reason_reported patterns index others asked pattern other old new statuses.NoPattern is other_is found = absurd found
reason_reported patterns index others asked pattern other old new status is other_is found = (pattern, other, is, other_is, found)
