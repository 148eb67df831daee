-- Lemmas on links.
use Rattle.std.proofs.Common.{◌≡◌, ℕ, List, length, inl, inr}
use Rattle.std.specs.Prelude.{slice_get, Some}
use Rattle.url.specs.Parts.{Parts, serialize}
use Rattle.urlpattern_ffi.specs.KeptPatterns.{PatternList}
use Rattle.urlpattern_ffi.specs.WrittenLinks.{IsLinkReported, IsReasonWritten, IsUrlLinked}
use Rattle.urlpattern_ffi.specs.TextBuffers.{IsWrittenTo}
use Rattle.urlpattern_ffi.specs.declared.status.Status.{Status}
use Rattle.urlpattern_ffi.specs.declared.status.Status.TheVariants as statuses
use Rattle.urlpattern_engine.specs.declared.pattern_regexp.PatternRegexp.{PatternRegexp}
use Rattle.urlpattern_ffi_links.specs.GivenLinks.{IsLinkOfBytes, RejectsLinkOfBytes}
use Rattle.urlpattern_ffi_links.specs.declared.given.GivenBytes.{GivenBytes}
use Rattle.urlpattern_pattern.specs.UrlPatterns.{UrlPattern}
use Rattle.urlpattern_generate.specs.declared.no_link.NoLink.{NoLink}

module _ (pattern : UrlPattern PatternRegexp) (text : List ℕ) (given : List GivenBytes) (old new : List ℕ) (needed : ℕ) where
  pub link_written : (url : Parts) (bytes : List ℕ) (status : Status) → IsLinkOfBytes pattern text given url → bytes ≡ serialize url → needed ≡ length bytes → IsWrittenTo bytes old new status
      → IsUrlLinked pattern text given old new needed status
  link_written url bytes statuses.Done is same counted written = (bytes, (url, is, same), counted, written)
  link_written url bytes statuses.TooSmall is same counted written = (bytes, inl (url, is, same), counted, written)
  link_written url bytes status is same counted written = absurd written

  pub reason_written : (reason : NoLink) (status : Status) → RejectsLinkOfBytes pattern text given reason → IsReasonWritten reason old new needed status → IsUrlLinked pattern text given old new needed status
  reason_written reason statuses.TooSmall refused (bytes, says, counted, written) = (bytes, inr (reason, refused, says), counted, written)
  reason_written reason statuses.Refused refused (bytes, says, counted, written) = (bytes, (reason, refused, says), counted, written)
  reason_written reason statuses.OutOfMemory (is_other, (groups, give, refuses)) written = ((groups, give), written)
  reason_written reason status refused written = absurd written

pub linked : (patterns : PatternList) (index : ℕ) (pattern : UrlPattern PatternRegexp) (text : List ℕ) (given : List GivenBytes) (old new : List ℕ) (needed : ℕ) (status : Status)
    → slice_get patterns index ≡ Some pattern → IsUrlLinked pattern text given old new needed status → IsLinkReported patterns index text given old new needed status
linked patterns index pattern text given old new needed statuses.NoPattern is answer = (inr answer.0, answer.1)
linked patterns index pattern text given old new needed status is answer = (pattern, is, answer)
