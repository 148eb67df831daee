-- The URL of the route with a name, for given groups, written to a buffer. Each `GivenBytes` names
-- a group and cuts the text for it out of one text.
use Rattle.std.specs.Prelude.{◌≡◌, ◌≢◌, ◌⊎◌, ℕ, Any, List, Option, None, Some, length}
use Rattle.std.specs.List.{AllZip}
use Rattle.std.specs.Str.{chars, IsUtf8}
use Rattle.url.specs.Parts.{Parts, serialize}
use Rattle.urlpattern.specs.Routes.{IsRouteLink, NoneIsNamedBefore, RejectsRouteLink}
use Rattle.urlpattern_engine.specs.PatternRegexps.{pattern_result}
use Rattle.urlpattern_ffi.specs.TextBuffers.{WritesToBuffer}
use Rattle.urlpattern_ffi.specs.WrittenLinks.{SaysWhy}
use Rattle.urlpattern_ffi.specs.declared.status.Status.{Status}
use Rattle.urlpattern_ffi.specs.declared.status.Status.TheVariants as statuses
use Rattle.urlpattern_ffi_links.specs.GivenBytes.{GiveGroups, GivesGroup, GivesNothing, GroupOfBytes}
use Rattle.urlpattern_ffi_links.specs.declared.given.GivenBytes.{GivenBytes}
use Rattle.urlpattern_ffi_links.specs.declared.given_link.Unlinked.{Unlinked}
use Rattle.urlpattern_ffi_links.specs.declared.given_link.Unlinked.TheVariants as unlinked
use Rattle.urlpattern_ffi_tables.specs.KeptRouters.{Router}
use Rattle.urlpattern_generate.specs.WriteSettings.{given_groups}
use Rattle.urlpattern_generate.specs.declared.no_link.NoLink.{NoLink}
use Rattle.urlpattern_generate.specs.declared.no_link.NoLink.TheVariants as no_link

-- `given` cuts groups out of `text` for which `Is` is true.
abbrev pub OfGivenGroups : (text : List ℕ) → List GivenBytes → (Is : List GroupOfBytes → Type 0)
    → Type 0
OfGivenGroups text given Is =
    (groups : List GroupOfBytes) × AllZip (GivesGroup text) given groups × Is groups

-- The URL is the link of the first route with this name, with the groups that `given` cuts out of
-- `text`. `None`: no route has the name.
abbrev pub IsLinkFound : Router → (name text : List ℕ) → List GivenBytes → Option Parts → Type 0
IsLinkFound router name text given link =
    OfGivenGroups text given (λ groups.
    IsRouteLink pattern_result router.routes (chars name) (given_groups groups) link)

-- The error says why the first route with this name has no link with the groups that `given` cuts
-- out of `text`. Memory did not run out.
abbrev pub RejectsLink : Router → (name text : List ℕ) → List GivenBytes → NoLink → Type 0
RejectsLink router name text given error =
    (error ≢ no_link.OutOfMemory)
    × OfGivenGroups text given (λ groups.
    RejectsRouteLink pattern_result router.routes (chars name) (given_groups groups) error)

-- `written` is the link of the first route with this name, with the groups that `given` cuts out of
-- `text`.
abbrev pub IsTextOfRouteLink : Router → (name text : List ℕ) → List GivenBytes
    → (written : List ℕ) → Type 0
IsTextOfRouteLink router name text given written =
    (url : Parts) × (written ≡ serialize url) × IsLinkFound router name text given (Some url)

-- `written` says why the first route with this name has no link with the groups that `given` cuts
-- out of `text`.
abbrev pub IsTextOfNoRouteLink : Router → (name text : List ℕ) → List GivenBytes
    → (written : List ℕ) → Type 0
IsTextOfNoRouteLink router name text given written =
    (reason : NoLink) × RejectsLink router name text given reason × SaysWhy reason written

-- The outcome of writing the link of the first route with this name. `Done`: it is written.
-- `Refused`: the reason why there is none is written. `TooSmall`: the buffer has no room for the
-- link or for the reason. `NoMatch`: no route has the name. `NoPattern`: some element of `given`
-- gives no group. `OutOfMemory`: each element gives a group. In the last three cases the buffer is
-- unchanged.
abbrev pub IsNamedLinkWritten : Router → (name text : List ℕ) → List GivenBytes
    → (old new : List ℕ) → (needed : ℕ) → Status → Type 0
IsNamedLinkWritten router name text given old new needed statuses.Done =
    WritesToBuffer (IsTextOfRouteLink router name text given) old new needed statuses.Done
IsNamedLinkWritten router name text given old new needed statuses.Refused =
    WritesToBuffer (IsTextOfNoRouteLink router name text given) old new needed statuses.Done
IsNamedLinkWritten router name text given old new needed statuses.TooSmall =
    WritesToBuffer (λ written.
    IsTextOfRouteLink router name text given written
    ⊎ IsTextOfNoRouteLink router name text given written) old new needed statuses.TooSmall
IsNamedLinkWritten router name text given old new needed statuses.NoMatch =
    GiveGroups text given
    × NoneIsNamedBefore router.routes (chars name) (length router.routes)
    × (new ≡ old)
IsNamedLinkWritten router name text given old new needed statuses.NoPattern =
    Any (GivesNothing text) given × (new ≡ old)
IsNamedLinkWritten router name text given old new needed statuses.OutOfMemory =
    GiveGroups text given × (new ≡ old)
IsNamedLinkWritten router name text given old new needed status = ⊥

-- The outcome of writing the link of the first route with this name (`IsNamedLinkWritten`).
-- `NotUtf8`: the name is not UTF-8, and the buffer is unchanged.
abbrev pub IsRouteLinkReported : Router → (name text : List ℕ) → List GivenBytes
    → (old new : List ℕ) → (needed : ℕ) → Status → Type 0
IsRouteLinkReported router name text given old new needed statuses.NotUtf8 =
    (¬ IsUtf8 name) × (new ≡ old)
IsRouteLinkReported router name text given old new needed status =
    IsNamedLinkWritten router name text given old new needed status

-- ---- steps

-- The reason why there is no URL: an element of `given` cuts no group out of `text`, the route has
-- no link with the groups, or memory ran out although each element cuts out a group.
abbrev pub IsNoLinkFound : Router → (name text : List ℕ) → List GivenBytes → Unlinked → Type 0
IsNoLinkFound router name text given unlinked.Given = Any (GivesNothing text) given
IsNoLinkFound router name text given (unlinked.NoLink error) =
    RejectsLink router name text given error
IsNoLinkFound router name text given unlinked.OutOfMemory = GiveGroups text given

-- The outcome of writing a URL. `NoMatch`: there is none.
abbrev pub IsLinkWritten : Option Parts → (old new : List ℕ) → (needed : ℕ) → Status → Type 0
IsLinkWritten (Some url) old new needed status =
    WritesToBuffer (λ written. written ≡ serialize url) old new needed status
IsLinkWritten None old new needed status = (status ≡ statuses.NoMatch) × (new ≡ old)
