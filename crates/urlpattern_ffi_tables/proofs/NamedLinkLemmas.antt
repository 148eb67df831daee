-- Lemmas on links of routes.
use Rattle.std.proofs.Common.{◌≡◌, ◌≢◌, ℕ, List, [], None, Option, Some, inl, inr, subst, sym}
use Rattle.url.specs.Parts.{Parts}
use Rattle.urlpattern_ffi.specs.WrittenLinks.{IsReasonWritten}
use Rattle.urlpattern_ffi.specs.declared.status.Status.{Status}
use Rattle.urlpattern_ffi.specs.declared.status.Status.TheVariants as statuses
use Rattle.urlpattern_ffi_links.specs.declared.given.GivenBytes.{GivenBytes}
use Rattle.urlpattern_ffi_tables.specs.KeptRouters.{Router}
use Rattle.urlpattern_ffi_tables.specs.RouteLinks.{IsLinkFound, IsLinkWritten, IsNamedLinkWritten, IsRouteLinkReported, RejectsLink}
use Rattle.urlpattern_generate.specs.declared.no_link.NoLink.{NoLink}

module _ (router : Router) (name text : List ℕ) (given : List GivenBytes) (old new : List ℕ) (needed : ℕ) where
  pub link_written : (link : Option Parts) (status : Status) → IsLinkFound router name text given link → IsLinkWritten link old new needed status → IsNamedLinkWritten router name text given old new needed status
  link_written (Some url) statuses.Done found (bytes, is, counted, written) = (bytes, (url, is, found), counted, written)
  link_written (Some url) statuses.TooSmall found (bytes, is, counted, written) = (bytes, inl (url, is, found), counted, written)
  link_written (Some url) status found (bytes, is, counted, written) = absurd written
  link_written None status (groups, cut, none) (is, same) = subst (λ (status : Status). IsNamedLinkWritten router name text given old new needed status) (sym is) ((groups, cut), none, same)

  pub reason_written : (reason : NoLink) (status : Status) → RejectsLink router name text given reason → IsReasonWritten reason old new needed status → IsNamedLinkWritten router name text given old new needed status
  reason_written reason statuses.TooSmall refused (bytes, says, counted, written) = (bytes, inr (reason, refused, says), counted, written)
  reason_written reason statuses.Refused refused (bytes, says, counted, written) = (bytes, (reason, refused, says), counted, written)
  reason_written reason statuses.OutOfMemory (other, (groups, cut, refused)) same = ((groups, cut), same)
  reason_written reason status refused written = absurd written

  pub link_reported : (status : Status) → IsNamedLinkWritten router name text given old new needed status → IsRouteLinkReported router name text given old new needed status
  link_reported statuses.NotUtf8 written = absurd written
  link_reported status written = written

-- What is reported for the router and the name as they were read is reported for those that are
-- passed.
pub link_of : (read kept : Router) (name passed text : List ℕ) (given : List GivenBytes) (old new : List ℕ) (needed : ℕ) (status : Status)
    → read ≡ kept → name ≡ passed → IsRouteLinkReported read name text given old new needed status → IsRouteLinkReported kept passed text given old new needed status
link_of read kept name passed text given old new needed status same is reported =
    subst (λ (router : Router). IsRouteLinkReported router passed text given old new needed status) same
    (subst (λ (name : List ℕ). IsRouteLinkReported read name text given old new needed status) is reported)
