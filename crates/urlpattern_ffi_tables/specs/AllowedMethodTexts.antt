-- The methods of the routes that match a request which none of them serves, as a text.
use Rattle.std.specs.Borrow.{Bor}
use Rattle.std.specs.List.{join_by}
use Rattle.std.specs.Prelude.{◌≡◌, ◌⊎◌, ◌+◌, ℕ, List, [], ◌∷◌, None, Some, codes, length}
use Rattle.std.specs.Str.{chars}
use Rattle.urlpattern.specs.Routes.{CallsEngineOfRequest, IsNextMethod, IsRouted, IsServed, NoneAddsMethod, RoutesLeft, SomeMatches, all_routes, allowed_left}
use Rattle.urlpattern.specs.declared.router.routed.Routed.{Routed}
use Rattle.urlpattern.specs.declared.router.routed.Routed.TheVariants.{MethodNotAllowed, NotFound}
use Rattle.urlpattern_components.specs.Eight.{Texts}
use Rattle.urlpattern_engine.specs.PatternRegexps.{pattern_result}
use Rattle.urlpattern_engine.specs.declared.pattern_regexp.PatternRegexp.{PatternRegexp}
use Rattle.urlpattern_ffi.specs.TextBuffers.{WritesToBuffer}
use Rattle.urlpattern_ffi.specs.declared.status.Status.{Status}
use Rattle.urlpattern_ffi.specs.declared.status.Status.TheVariants as statuses
use Rattle.urlpattern_ffi_tables.specs.KeptRouters.{Router}
use Rattle.urlpattern_ffi_tables.specs.RoutedRequests.{IsNoRequest}
use Rattle.urlpattern_matches.specs.declared.captures.UrlPatternCaptures.{UrlPatternCaptures}

-- What is left of the routes once the one at `index` is tried.
abbrev pub after : RoutesLeft PatternRegexp (Unit {0}) → (index : ℕ)
    → RoutesLeft PatternRegexp (Unit {0})
after left index = record left { from = index + 1 }

-- The methods of the routes that are left and match, each once, in the order of the routes.
abbrev pub AreMethodsOf : RoutesLeft PatternRegexp (Unit {0}) → List (Bor (List ℕ)) → Type 0
AreMethodsOf left [] = NoneAddsMethod pattern_result left (length left.routes)
AreMethodsOf left (method ∷ methods) =
    (index : ℕ) × IsNextMethod pattern_result left index (chars method.now)
    × AreMethodsOf (after left index) methods

-- `text` has the methods (`AreMethodsOf`) one after the other, with a comma and a space between
-- two.
abbrev pub AreMethodsIn : RoutesLeft PatternRegexp (Unit {0}) → (text : List ℕ) → Type 0
AreMethodsIn left text =
    (methods : List (Bor (List ℕ))) × AreMethodsOf left methods
    × (text ≡ join_by (λ method. method.now) (codes ", ") methods)

-- Some route matches the texts, but none serves a request with this method and these texts.
abbrev pub IsMethodRefused : Router → (method : List ℕ) → Texts → Type 0
IsMethodRefused router method texts =
    IsServed pattern_result router method texts None
    × SomeMatches pattern_result router.routes texts

-- A route serves a request with this method and these texts, or no route matches them.
abbrev pub IsMethodNotRefused : Router → (method : List ℕ) → Texts → Type 0
IsMethodNotRefused router method texts =
    ((found : ℕ × Bor (Unit {0}) × UrlPatternCaptures)
    × IsServed pattern_result router method texts (Some found))
    ⊎ IsRouted pattern_result router method texts NotFound

-- The outcome of writing the methods of the routes that match the texts, if no route serves a
-- request with this method and these texts. `Done`: they are written. `TooSmall`: the buffer has no
-- room for them. `NoMatch`: a route serves the request, or no route matches. `OutOfMemory`: an
-- engine is called, or the methods are to be written, and the buffer is unchanged.
abbrev pub AreAllowedMethods : Router → (method : List ℕ) → Texts → (old new : List ℕ)
    → (needed : ℕ) → Status → Type 0
AreAllowedMethods router method texts old new needed statuses.Done =
    IsMethodRefused router method texts
    × WritesToBuffer (AreMethodsIn (all_routes router.routes texts)) old new needed statuses.Done
AreAllowedMethods router method texts old new needed statuses.TooSmall =
    IsMethodRefused router method texts
    × WritesToBuffer (AreMethodsIn (all_routes router.routes texts)) old new needed
    statuses.TooSmall
AreAllowedMethods router method texts old new needed statuses.NoMatch =
    IsMethodNotRefused router method texts × (new ≡ old)
AreAllowedMethods router method texts old new needed statuses.OutOfMemory =
    (CallsEngineOfRequest pattern_result router method texts ⊎ IsMethodRefused router method texts)
    × (new ≡ old)
AreAllowedMethods router method texts old new needed status = ⊥

-- The outcome of writing the methods for what is passed. Either the request is for the texts for
-- which `AreRead` is true (`AreAllowedMethods`), or the status says why it is not read
-- (`IsNoRequest`), and the buffer is unchanged.
abbrev pub AreAllowedReported : (AreRead : Texts → Type 0) → (AreUnread : Status → Type 0)
    → Router → (method : List ℕ) → (old new : List ℕ) → (needed : ℕ) → Status → Type 0
AreAllowedReported AreRead AreUnread router method old new needed status =
    ((texts : Texts) × AreRead texts
    × AreAllowedMethods router (chars method) texts old new needed status)
    ⊎ (IsNoRequest AreUnread method status × (new ≡ old))

-- ---- steps

-- The outcome of writing the methods that a router returned. `NoMatch`: it returned none.
abbrev pub AreAllowedWritten : Routed (Unit {0}) PatternRegexp → (old new : List ℕ)
    → (needed : ℕ) → Status → Type 0
AreAllowedWritten (MethodNotAllowed allowed) old new needed statuses.OutOfMemory = new ≡ old
AreAllowedWritten (MethodNotAllowed allowed) old new needed status =
    WritesToBuffer (AreMethodsIn (allowed_left allowed)) old new needed status
AreAllowedWritten routed old new needed status = (status ≡ statuses.NoMatch) × (new ≡ old)
