-- Routes that C appends to those of a handle. Names, methods and patterns are passed as bytes.
use Rattle.http_header.specs.Token.{IsToken}
use Rattle.std.specs.Prelude.{◌≡◌, ◌≢◌, ◌⊎◌, ℕ, List, [], ◌∷◌, Option, None, Some}
use Rattle.std.specs.Str.{chars, IsUtf8}
use Rattle.urlpattern.specs.Routes.{AppendsRoute, IsNewName, IsRouteError}
use Rattle.urlpattern.specs.declared.router.route_error.RouteError.{RouteError}
use Rattle.urlpattern.specs.declared.router.route_error.RouteError.TheVariants as errors
use Rattle.urlpattern_engine.specs.declared.pattern_regexp.PatternRegexp.{PatternRegexp}
use Rattle.urlpattern_ffi.specs.declared.status.Status.{Status}
use Rattle.urlpattern_ffi.specs.declared.status.Status.TheVariants as statuses
use Rattle.urlpattern_ffi_tables.specs.KeptRouters.{Router}
use Rattle.urlpattern_pattern.specs.UrlPatterns.{UrlPattern}

-- The name or the method that bytes give. `None`: there are no bytes.
abbrev pub given_word : List ℕ → Option (List ℕ)
given_word [] = None
given_word (byte ∷ bytes) = Some (chars (byte ∷ bytes))

-- The router takes a route with this name and this method: no route has the name, and the method is
-- a token. No bytes for both stand for a route without a name that serves every method.
abbrev pub TakesRoute : Router → (name method : List ℕ) → Type 0
TakesRoute router [] [] = Unit {0}
TakesRoute router name method = IsNewName router.routes (given_word name) × IsToken method

-- The router rejects a route with this name and this method: a route has the name (`NameTaken`), or
-- none has it, and the method is no token (`NotAMethod`).
abbrev pub RejectsRoute : Router → (name method : List ℕ) → RouteError → Type 0
RejectsRoute router [] [] error = ⊥
RejectsRoute router name method error = IsRouteError router.routes (given_word name) method error

-- The status for a route that is not added: it has the name of the error.
abbrev pub insert_status : RouteError → Status
insert_status errors.OutOfMemory = statuses.OutOfMemory
insert_status errors.NameTaken = statuses.NameTaken
insert_status errors.NotAMethod = statuses.NotAMethod

-- The outcome of appending a route with this name, this method and this pattern. `Done`: it is
-- appended. `NameTaken`, `NotAMethod`: it is rejected (`RejectsRoute`). Unless `Done`, the router
-- is unchanged.
abbrev pub IsRouteInserted : (old : Router) → (name method : List ℕ) → UrlPattern PatternRegexp
    → (new : Router) → Status → Type 0
IsRouteInserted old name method pattern new statuses.Done =
    AppendsRoute old (given_word name) (given_word method) pattern tt new
    × TakesRoute old name method
IsRouteInserted old name method pattern new statuses.NameTaken =
    RejectsRoute old name method errors.NameTaken × (new ≡ old)
IsRouteInserted old name method pattern new statuses.NotAMethod =
    RejectsRoute old name method errors.NotAMethod × (new ≡ old)
IsRouteInserted old name method pattern new statuses.OutOfMemory =
    TakesRoute old name method × (new ≡ old)
IsRouteInserted old name method pattern new status = ⊥

-- The outcome of appending a route to those of a handle (`IsRouteInserted`). `NotUtf8`: the name or
-- the method is not UTF-8. `Shared`, which says that another handle has the routes: there is one.
-- Unless `Done`, the routes are unchanged.
abbrev pub IsRoutePushed : (old : Router) → (name method : List ℕ) → UrlPattern PatternRegexp
    → (new : Router) → Status → Type 0
IsRoutePushed old name method pattern new statuses.NotUtf8 =
    ((¬ IsUtf8 name) ⊎ (¬ IsUtf8 method)) × (new ≡ old)
IsRoutePushed old name method pattern new statuses.Shared = (old.routes ≢ []) × (new ≡ old)
IsRoutePushed old name method pattern new status =
    IsRouteInserted old name method pattern new status

-- The outcome of appending a route with a pattern for which `IsPattern` is true
-- (`IsRoutePushed`), or there is none, and the status says why (`IsNoPattern`). Unless `Done`, the
-- routes are unchanged.
abbrev pub IsRouteAdded : (IsPattern : UrlPattern PatternRegexp → Type 0)
    → (IsNoPattern : Status → Type 0) → (old : Router) → (name method : List ℕ) → (new : Router)
    → Status → Type 0
IsRouteAdded IsPattern IsNoPattern old name method new status =
    ((pattern : UrlPattern PatternRegexp) × IsPattern pattern
    × IsRoutePushed old name method pattern new status)
    ⊎ (IsNoPattern status × (new ≡ old))
