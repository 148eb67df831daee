-- Outcomes of calls on a router. `number` is the number of the status that is returned.
use Rattle.std.specs.Prelude.{ℕ, List}
use Rattle.urlpattern_c.specs.Handles.{router_in}
use Rattle.urlpattern_c.specs.declared.router.Router.{Router}
use Rattle.urlpattern_components.specs.Eight.{Texts}
use Rattle.urlpattern_engine.specs.declared.pattern_regexp.PatternRegexp.{PatternRegexp}
use Rattle.urlpattern_ffi.specs.Calls.{ReturnsStatus}
use Rattle.urlpattern_ffi.specs.declared.spans.GroupSpan.{GroupSpan}
use Rattle.urlpattern_ffi.specs.declared.spans.Sizes.{Sizes}
use Rattle.urlpattern_ffi.specs.declared.status.Status.{Status}
use Rattle.urlpattern_ffi_tables.specs.AddedRoutes.{IsRouteAdded}
use Rattle.urlpattern_ffi_tables.specs.AllowedMethodTexts.{AreAllowedReported}
use Rattle.urlpattern_ffi_tables.specs.RoutedRequests.{IsRequestReported}
use Rattle.urlpattern_pattern.specs.UrlPatterns.{UrlPattern}

-- `number` is the status of appending a route with a pattern for which `IsPattern` is true
-- (`IsRouteAdded`).
abbrev pub AddsRoute : (IsPattern : UrlPattern PatternRegexp → Type 0)
    → (IsNoPattern : Status → Type 0) → (old : Router) → (name method : List ℕ) → (new : Router)
    → ℕ → Type 0
AddsRoute IsPattern IsNoPattern old name method new number =
    ReturnsStatus (IsRouteAdded IsPattern IsNoPattern (router_in old) name method (router_in new))
    number

-- `number` is the status of writing the route that serves a request for what is passed, and its
-- groups (`IsRequestReported`).
abbrev pub ReportsRequest : (AreRead : Texts → Type 0) → (AreUnread : Status → Type 0) → Router
    → (method : List ℕ) → (old_index new_index : ℕ) → (old new : List ℕ)
    → (old_spans new_spans : List GroupSpan) → (needed : Sizes) → ℕ → Type 0
ReportsRequest AreRead AreUnread router method old_index new_index old new old_spans new_spans
    needed number =
    ReturnsStatus (IsRequestReported AreRead AreUnread (router_in router) method old_index new_index
    old new old_spans new_spans needed) number

-- `number` is the status of writing the methods that are allowed for what is passed
-- (`AreAllowedReported`).
abbrev pub ReportsAllowed : (AreRead : Texts → Type 0) → (AreUnread : Status → Type 0) → Router
    → (method : List ℕ) → (old new : List ℕ) → (needed : ℕ) → ℕ → Type 0
ReportsAllowed AreRead AreUnread router method old new needed number =
    ReturnsStatus (AreAllowedReported AreRead AreUnread (router_in router) method old new needed)
    number
