-- Lemmas on inits that are matched.
use Rattle.std.proofs.Common.{◌≡◌, ℕ, List, inl}
use Rattle.std.specs.Prelude.{slice_get, Some}
use Rattle.urlpattern.specs.Patterns.{pattern_view}
use Rattle.urlpattern_engine.specs.declared.pattern_regexp.PatternRegexp.{PatternRegexp}
use Rattle.urlpattern_ffi.specs.InitMatches.{AreNoTextsOfInit, IsInitExecReported, IsInitExecuted, IsInitUnmatched, IsNoMatchedInit}
use Rattle.urlpattern_ffi.specs.Inits.{IsUnread}
use Rattle.urlpattern_ffi.specs.KeptPatterns.{PatternList}
use Rattle.urlpattern_ffi.specs.declared.status.Status.{Status}
use Rattle.urlpattern_ffi.specs.declared.status.Status.TheVariants as statuses
use Rattle.urlpattern_pattern.specs.Patterns.{PatternView}
use Rattle.urlpattern_pattern.specs.UrlPatterns.{UrlPattern}

-- What is not read is no init that is matched.
pub no_matched_init : (json : List ℕ) (status : Status) → IsUnread json status → IsNoMatchedInit json status
no_matched_init json statuses.NoUrl unread = absurd unread
no_matched_init json status unread = unread

-- What is no init has no texts.
pub no_texts_of_init : (json : List ℕ) (status : Status) → IsNoMatchedInit json status → AreNoTextsOfInit json status
no_texts_of_init json statuses.NoUrl none = inl none
no_texts_of_init json statuses.TooLong none = absurd none
no_texts_of_init json status none = none

-- What has no texts has no match.
pub init_unmatched : (pattern : PatternView PatternRegexp) (json : List ℕ) (status : Status) → AreNoTextsOfInit json status → IsInitUnmatched pattern json status
init_unmatched pattern json statuses.NoMatch none = absurd none
init_unmatched pattern json status none = none

pub init_executed : (patterns : PatternList) (index : ℕ) (pattern : UrlPattern PatternRegexp) (json old new : List ℕ) (needed : ℕ) (status : Status)
    → slice_get patterns index ≡ Some pattern → IsInitExecuted (pattern_view pattern) json old new needed status → IsInitExecReported patterns index json old new needed status
init_executed patterns index pattern json old new needed statuses.NoPattern is answer = absurd answer.0
init_executed patterns index pattern json old new needed status is answer = (pattern, is, answer)
