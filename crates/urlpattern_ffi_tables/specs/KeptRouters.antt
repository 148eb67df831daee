-- The routers that handles keep. `None` is an empty handle.
use Rattle.std.specs.Arc.{arc_value}
use Rattle.std.specs.Global.{Global}
use Rattle.std.specs.Prelude.{◌≡◌, [], true, Option, None, Some}
use Rattle.std.specs.declared.boxed.Box.{Box}
use Rattle.urlpattern.specs.declared.router.UrlPatternRouter.{UrlPatternRouter}
use Rattle.urlpattern_engine.specs.declared.pattern_regexp.PatternRegexp.{PatternRegexp}
use Rattle.urlpattern_ffi.specs.declared.status.Status.{Status}
use Rattle.urlpattern_ffi.specs.declared.status.Status.TheVariants as statuses
use Rattle.urlpattern_ffi_tables.specs.declared.router_box.RouterBox.{RouterBox}

-- A router of C. Its routes have no values: a program keeps these itself, by the routes' indices.
abbrev pub Router : Type 0
Router = UrlPatternRouter (Unit {0}) PatternRegexp

-- The router of an empty handle.
abbrev pub no_routes : Router
no_routes = record { routes = []; head_as_get = true }

-- The router that a handle keeps. An empty handle (`None`) keeps no routes.
abbrev pub kept_router : Option RouterBox → Router
kept_router None = no_routes
kept_router (Some kept) = arc_value kept.router

-- The router that a handle keeps in a box. An empty handle (`None`) keeps no routes.
abbrev pub boxed_router : Option (Box RouterBox Global) → Router
boxed_router None = no_routes
boxed_router (Some kept) = arc_value kept.value.router

-- The outcome of giving another handle the routes of one: `Done`, the other one, which had `old`,
-- has them in place of those; or `OutOfMemory`, and it has those that it had.
abbrev pub IsRouterShared : (router old new : Router) → Status → Type 0
IsRouterShared router old new statuses.Done = new ≡ router
IsRouterShared router old new statuses.OutOfMemory = new ≡ old
IsRouterShared router old new status = ⊥
