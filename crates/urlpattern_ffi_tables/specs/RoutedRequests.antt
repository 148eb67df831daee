-- Requests, with the routes that serve them. A method and what a request is for are passed as
-- bytes.
use Rattle.std.specs.Borrow.{Bor}
use Rattle.std.specs.Prelude.{◌≡◌, ◌⊎◌, ℕ, List, None, Some}
use Rattle.std.specs.Str.{chars, IsUtf8}
use Rattle.url.specs.Parts.{Parts}
use Rattle.urlpattern.specs.Routes.{CallsEngineOfRequest, IsRouted, IsServed, SomeMatches}
use Rattle.urlpattern.specs.declared.router.routed.Routed.{Routed}
use Rattle.urlpattern.specs.declared.router.routed.Routed.TheVariants.{Found, MethodNotAllowed, NotFound}
use Rattle.urlpattern_components.specs.Eight.{Texts}
use Rattle.urlpattern_engine.specs.PatternRegexps.{pattern_result}
use Rattle.urlpattern_engine.specs.declared.pattern_regexp.PatternRegexp.{PatternRegexp}
use Rattle.urlpattern_ffi.specs.Calls.{IsUrlUnderBase}
use Rattle.urlpattern_ffi.specs.GroupSpans.{AreSpansWritten, ExceedSizes, NumberedGroup, found_groups, no_sizes}
use Rattle.urlpattern_ffi.specs.declared.spans.GroupSpan.{GroupSpan}
use Rattle.urlpattern_ffi.specs.declared.spans.Sizes.{Sizes}
use Rattle.urlpattern_ffi.specs.declared.status.Status.{Status}
use Rattle.urlpattern_ffi.specs.declared.status.Status.TheVariants as statuses
use Rattle.urlpattern_ffi_tables.specs.KeptRouters.{Router}
use Rattle.urlpattern_init.specs.Inheritance.{texts_of_url}
use Rattle.urlpattern_matches.specs.declared.captures.UrlPatternCaptures.{UrlPatternCaptures}

-- The texts are those of the URL that `text` is, under the base URL `base` unless that is empty.
abbrev pub AreTextsOfUrl : (text base : List ℕ) → Texts → Type 0
AreTextsOfUrl text base texts =
    (url : Parts) × IsUrlUnderBase text base url × (texts ≡ texts_of_url url)

-- ---- a route that serves a request

-- The route at `index` serves a request with this method and these texts, and `groups` are the
-- groups of its match, in the order of the components.
pub record AreGroupsOfRoute (router : Router) (method : List ℕ) (texts : Texts) (index : ℕ)
    (groups : List NumberedGroup) : Type 0 where
  pub value : Bor (Unit {0})
  pub found : UrlPatternCaptures
  pub is_served : IsServed pattern_result router method texts (Some (index, value, found))
  pub are_groups : groups ≡ found_groups found

-- The outcome of writing the index and the groups of the route that serves a request with this
-- method and these texts. `Done`, `TooSmall`: `new_index` is the index, and the groups are as in
-- `AreSpansWritten`. `NotAllowed`: some route matches, but none serves the request. `NoMatch`: no
-- route matches. `OutOfMemory`: an engine is called. In the last three cases index and buffers are
-- unchanged; or it is `OutOfMemory`, and the groups of the route at `new_index` need more room than
-- a size can say.
abbrev pub AreRouteCaptures : Router → (method : List ℕ) → Texts → (old_index new_index : ℕ)
    → (old new : List ℕ) → (old_spans new_spans : List GroupSpan) → (needed : Sizes) → Status
    → Type 0
AreRouteCaptures router method texts old_index new_index old new old_spans new_spans needed
    statuses.Done =
    (groups : List NumberedGroup) × AreGroupsOfRoute router method texts new_index groups
    × AreSpansWritten groups old new old_spans new_spans needed statuses.Done
AreRouteCaptures router method texts old_index new_index old new old_spans new_spans needed
    statuses.TooSmall =
    (groups : List NumberedGroup) × AreGroupsOfRoute router method texts new_index groups
    × AreSpansWritten groups old new old_spans new_spans needed statuses.TooSmall
AreRouteCaptures router method texts old_index new_index old new old_spans new_spans needed
    statuses.NotAllowed =
    IsServed pattern_result router method texts None
    × SomeMatches pattern_result router.routes texts
    × (new_index ≡ old_index) × (new ≡ old) × (new_spans ≡ old_spans)
AreRouteCaptures router method texts old_index new_index old new old_spans new_spans needed
    statuses.NoMatch =
    IsRouted pattern_result router method texts NotFound
    × (new_index ≡ old_index) × (new ≡ old) × (new_spans ≡ old_spans)
AreRouteCaptures router method texts old_index new_index old new old_spans new_spans needed
    statuses.OutOfMemory =
    (CallsEngineOfRequest pattern_result router method texts
    × (new_index ≡ old_index) × (new ≡ old) × (new_spans ≡ old_spans))
    ⊎ ((groups : List NumberedGroup) × AreGroupsOfRoute router method texts new_index groups
    × ExceedSizes no_sizes groups)
AreRouteCaptures router method texts old_index new_index old new old_spans new_spans needed status =
    ⊥

-- ---- what is passed

-- The status says why a request is not read: what it is for is not (`AreUnread`), or the method is
-- not UTF-8.
abbrev pub IsNoRequest : (AreUnread : Status → Type 0) → (method : List ℕ) → Status → Type 0
IsNoRequest AreUnread method status =
    AreUnread status ⊎ ((status ≡ statuses.NotUtf8) × (¬ IsUtf8 method))

-- The outcome of writing the index and the groups of the route that serves a request with this
-- method for what is passed. Either the request is for the texts for which `AreRead` is true
-- (`AreRouteCaptures`), or the status says why it is not read (`IsNoRequest`), and index and
-- buffers are unchanged.
abbrev pub IsRequestReported : (AreRead : Texts → Type 0) → (AreUnread : Status → Type 0)
    → Router → (method : List ℕ) → (old_index new_index : ℕ) → (old new : List ℕ)
    → (old_spans new_spans : List GroupSpan) → (needed : Sizes) → Status → Type 0
IsRequestReported AreRead AreUnread router method old_index new_index old new old_spans new_spans
    needed status =
    ((texts : Texts) × AreRead texts
    × AreRouteCaptures router (chars method) texts old_index new_index old new old_spans new_spans
    needed status)
    ⊎ (IsNoRequest AreUnread method status
    × (new_index ≡ old_index) × (new ≡ old) × (new_spans ≡ old_spans))

-- ---- steps

-- The outcome of writing what a router returned. `Found`: the index is written, and the groups as
-- in `AreSpansWritten`. For anything else nothing is written.
abbrev pub IsRoutedWritten : Routed (Unit {0}) PatternRegexp → (old_index new_index : ℕ)
    → (old new : List ℕ) → (old_spans new_spans : List GroupSpan) → (needed : Sizes) → Status
    → Type 0
IsRoutedWritten (Found index value found) old_index new_index old new old_spans new_spans needed
    status =
    (new_index ≡ index)
    × AreSpansWritten (found_groups found) old new old_spans new_spans needed status
IsRoutedWritten (MethodNotAllowed allowed) old_index new_index old new old_spans new_spans needed
    status =
    (status ≡ statuses.NotAllowed)
    × (new_index ≡ old_index) × (new ≡ old) × (new_spans ≡ old_spans)
IsRoutedWritten NotFound old_index new_index old new old_spans new_spans needed status =
    (status ≡ statuses.NoMatch)
    × (new_index ≡ old_index) × (new ≡ old) × (new_spans ≡ old_spans)
