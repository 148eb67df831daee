-- Lemmas on patterns that are written as one text, or compared for being the same.
use Rattle.std.proofs.Common.{◌≡◌, ℕ, List, length}
use Rattle.std.specs.Prelude.{slice_get, Some}
use Rattle.urlpattern_engine.specs.declared.pattern_regexp.PatternRegexp.{PatternRegexp}
use Rattle.urlpattern_ffi.specs.KeptPatterns.{PatternList}
use Rattle.urlpattern_ffi.specs.TextBuffers.{IsWrittenTo}
use Rattle.urlpattern_ffi.specs.WholeTexts.{AreSame, IsSameReported, IsTextOf, IsTextReported, IsWholeWritten}
use Rattle.urlpattern_ffi.specs.declared.status.Status.{Status}
use Rattle.urlpattern_ffi.specs.declared.status.Status.TheVariants as statuses
use Rattle.urlpattern_pattern.specs.UrlPatterns.{UrlPattern}

pub whole_written : (pattern : UrlPattern PatternRegexp) (text old new : List ℕ) (needed : ℕ) (status : Status) → IsTextOf pattern text → needed ≡ length text → IsWrittenTo text old new status
    → IsWholeWritten pattern old new needed status
whole_written pattern text old new needed statuses.Done is counted written = (text, is, counted, written)
whole_written pattern text old new needed statuses.TooSmall is counted written = (text, is, counted, written)
whole_written pattern text old new needed status is counted written = absurd written

pub text_reported : (patterns : PatternList) (index : ℕ) (pattern : UrlPattern PatternRegexp) (old new : List ℕ) (needed : ℕ) (status : Status)
    → slice_get patterns index ≡ Some pattern → IsWholeWritten pattern old new needed status → IsTextReported patterns index old new needed status
text_reported patterns index pattern old new needed statuses.NoPattern is written = absurd written
text_reported patterns index pattern old new needed status is written = (pattern, is, written)

pub same_reported : (patterns : PatternList) (index : ℕ) (others : PatternList) (other : ℕ) (pattern compared : UrlPattern PatternRegexp) (status : Status)
    → slice_get patterns index ≡ Some pattern → slice_get others other ≡ Some compared → AreSame pattern compared status → IsSameReported patterns index others other status
same_reported patterns index others other pattern compared statuses.NoPattern is other_is same = absurd same
same_reported patterns index others other pattern compared status is other_is same = (pattern, compared, is, other_is, same)
