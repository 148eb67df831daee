-- The routes of a router. `answer` is what an engine returns for a text.
use Rattle.http_header.specs.Token.{IsToken}
use Rattle.std.specs.Borrow.{Bor}
use Rattle.std.specs.Prelude.{◌≡◌, ◌⊎◌, ◌+◌, ◌++◌, ◌∷◌, [], ◌<◌, ◌≤◌, ℕ, IfSome, IsSomeAnd, IsTrue, List, MatchOption, None, Option, Result, Ok, Err, Some, codes, length, option_map, slice_get}
use Rattle.std.specs.Str.{chars}
use Rattle.url.specs.Parts.{Parts}
use Rattle.urlpattern.specs.FirstMatch.{CallsEngineBeforeMatch}
use Rattle.urlpattern.specs.NextMatch.{NoneMatchBetween}
use Rattle.urlpattern.specs.Paths.{IsPath}
use Rattle.urlpattern.specs.PatternMaps.{entry_patterns}
use Rattle.urlpattern.specs.declared.path_error.PathError.{PathError}
use Rattle.urlpattern.specs.declared.path_error.PathError.TheVariants as paths
use Rattle.urlpattern.specs.declared.router.UrlPatternRouter.{UrlPatternRouter}
use Rattle.urlpattern.specs.declared.router.allowed_methods.AllowedMethods.{AllowedMethods}
use Rattle.urlpattern.specs.declared.router.route.Route.{Route}
use Rattle.urlpattern.specs.declared.router.route_error.RouteError.{RouteError}
use Rattle.urlpattern.specs.declared.router.route_error.RouteError.TheVariants.{NameTaken, NotAMethod, OutOfMemory}
use Rattle.urlpattern.specs.declared.router.routed.Routed.{Routed}
use Rattle.urlpattern.specs.declared.router.routed.Routed.TheVariants.{Found, MethodNotAllowed, NotFound}
use Rattle.urlpattern_components.specs.Eight.{Texts}
use Rattle.urlpattern_generate.specs.EncodedGroups.{encoded_groups}
use Rattle.urlpattern_generate.specs.WriteSettings.{GivenView}
use Rattle.urlpattern_generate.specs.declared.no_link.NoLink.{NoLink}
use Rattle.urlpattern_init.specs.declared.init.UrlPatternMatchInput.TheVariants as inputs
use Rattle.urlpattern_matches.specs.BorrowedMatches.{groups_view, pattern_captures_view}
use Rattle.urlpattern_matches.specs.GroupTexts.{borrowed_texts}
use Rattle.urlpattern_matches.specs.MatchInput.{pathname_alone}
use Rattle.urlpattern_matches.specs.declared.captures.UrlPatternCaptures.{UrlPatternCaptures}
use Rattle.urlpattern_meaning.specs.PartMeaning.{Captures}
use Rattle.urlpattern_pattern.specs.EncodedLinks.{RejectsEncoded, ReturnsDecoded}
use Rattle.urlpattern_pattern.specs.LinkedUrls.{IsLink}
use Rattle.urlpattern_pattern.specs.Match.{AreGroupsInOrder, AreMatched, CallsAnEngine, DoesNotMatch, HasMatch, IsMatchOf}
use Rattle.urlpattern_pattern.specs.Patterns.{pattern_view}
use Rattle.urlpattern_pattern.specs.UrlPatterns.{UrlPattern}
use Rattle.urlpattern_syntax.specs.Text.{text_of}
use Rattle.urlpattern_syntax.specs.declared.error.Error.{Error}
use Rattle.urlpattern_syntax.specs.declared.error.Error.TheVariants as errors

-- ---- one route

-- The entries of a router.
abbrev pub Routes : (E T : Type 0) → Type 0
Routes E T = List (UrlPattern E × Route T)

-- The route serves requests with this method, since it is its own, or since it has none.
abbrev pub Takes : {T : Type 0} → (method : List ℕ) → Route T → Type 0
Takes method route = MatchOption route.method (Unit {0}) (λ own. text_of own ≡ method)

-- The route has this method.
abbrev pub HasMethod : {T : Type 0} → (method : List ℕ) → Route T → Type 0
HasMethod method route = IsSomeAnd route.method (λ own. text_of own ≡ method)

-- The route at the index has this method.
abbrev pub HasMethodAt : {E T : Type 0} → Routes E T → (method : List ℕ) → (index : ℕ) → Type 0
HasMethodAt {E} {T} routes method index =
    (entry : UrlPattern E × Route T) × (slice_get routes index ≡ Some entry)
    × HasMethod method entry.1

-- The route is not one for which `Is` holds, or its pattern does not match the texts.
abbrev pub DoesNotServe : {E T : Type 0} → (answer : E → List ℕ → Option Captures)
    → (Is : Route T → Type 0) → Texts → UrlPattern E × Route T → Type 0
DoesNotServe answer Is texts (pattern, route) =
    (¬ Is route) ⊎ DoesNotMatch answer (pattern_view pattern) texts

-- No route before the index `end` for which `Is` holds matches the texts.
abbrev pub NoneServesBefore : {E T : Type 0} → (answer : E → List ℕ → Option Captures)
    → Routes E T → (Is : Route T → Type 0) → Texts → (end : ℕ) → Type 0
NoneServesBefore {E} {T} answer routes Is texts end =
    (index : ℕ) (entry : UrlPattern E × Route T) → index < end
    → slice_get routes index ≡ Some entry → DoesNotServe answer Is texts entry

-- `Is` holds for the route at an index, which matches the texts, with this value and this match.
abbrev pub Serves : {E T : Type 0} → (answer : E → List ℕ → Option Captures) → Routes E T
    → (Is : Route T → Type 0) → Texts → ℕ × Bor T × UrlPatternCaptures → Type 0
Serves {E} {T} answer routes Is texts (index, value, captures) =
    (entry : UrlPattern E × Route T) × (slice_get routes index ≡ Some entry) × Is entry.1
    × (value.now ≡ entry.1.value)
    × IsMatchOf answer (pattern_view entry.0) texts (pattern_captures_view captures)
    × AreGroupsInOrder answer (pattern_view entry.0) texts (groups_view captures)

-- `found` is the first route for which `Is` holds that matches the texts: its index, its value, and
-- the match. `None`: there is no such route.
abbrev pub IsRouteFound : {E T : Type 0} → (answer : E → List ℕ → Option Captures)
    → Routes E T → (Is : Route T → Type 0) → Texts → Option (ℕ × Bor T × UrlPatternCaptures)
    → Type 0
IsRouteFound answer routes Is texts (Some first) =
    Serves answer routes Is texts first × NoneServesBefore answer routes Is texts first.0
IsRouteFound answer routes Is texts None =
    NoneServesBefore answer routes Is texts (length routes)

-- No route at the index for which `Is` holds matches the texts.
abbrev pub NoneServesAt : {E T : Type 0} → (answer : E → List ℕ → Option Captures) → Routes E T
    → (Is : Route T → Type 0) → Texts → (index : ℕ) → Type 0
NoneServesAt {E} {T} answer routes Is texts index =
    (entry : UrlPattern E × Route T) → slice_get routes index ≡ Some entry
    → DoesNotServe answer Is texts entry

-- A route at the index may match the texts, and no route before the index does.
abbrev pub IsCandidate : {E T : Type 0} → (answer : E → List ℕ → Option Captures) → Routes E T
    → Texts → (index : ℕ) → Type 0
IsCandidate answer routes texts index =
    (index < length routes) × NoneMatchBetween answer (entry_patterns routes) texts 0 index

-- `Is` holds for the route at the index, which calls an engine for the texts.
abbrev pub CallsEngineAt : {E T : Type 0} → (answer : E → List ℕ → Option Captures) → Routes E T
    → (Is : Route T → Type 0) → Texts → (index : ℕ) → Type 0
CallsEngineAt {E} {T} answer routes Is texts index =
    (entry : UrlPattern E × Route T) × (slice_get routes index ≡ Some entry) × Is entry.1
    × CallsAnEngine answer (pattern_view entry.0) texts

-- Some route for which `Is` holds calls an engine for the texts, and no such route before it
-- matches them.
abbrev pub CallsEngineBeforeRoute : {E T : Type 0} → (answer : E → List ℕ → Option Captures)
    → Routes E T → (Is : Route T → Type 0) → Texts → Type 0
CallsEngineBeforeRoute answer routes Is texts =
    (index : ℕ) × CallsEngineAt answer routes Is texts index
    × NoneServesBefore answer routes Is texts index

-- ---- a request

-- The routes whose index is at least `from`, and eight texts.
pub record RoutesLeft (E T : Type 0) : Type 0 where
  pub routes : Routes E T
  pub texts : Texts
  pub from : ℕ

-- All routes, and eight texts.
abbrev pub all_routes : {E T : Type 0} → Routes E T → Texts → RoutesLeft E T
all_routes routes texts = record { routes = routes; texts = texts; from = 0 }

-- What an `AllowedMethods` has yet to try.
abbrev pub allowed_left : {E T : Type 0} → AllowedMethods T E → RoutesLeft E T
allowed_left methods = record {
  routes = methods.routes.now;
  texts = borrowed_texts methods.texts;
  from = methods.from;
}

-- The method is `HEAD`, and the router serves it by routes for `GET`.
abbrev pub IsHead : {E T : Type 0} → UrlPatternRouter T E → (method : List ℕ) → Type 0
IsHead router method = IsTrue router.head_as_get × (method ≡ codes "HEAD")

-- Some route matches the texts, whatever its method.
abbrev pub SomeMatches : {E T : Type 0} → (answer : E → List ℕ → Option Captures)
    → Routes E T → Texts → Type 0
SomeMatches {E} {T} answer routes texts =
    (index : ℕ) × (entry : UrlPattern E × Route T) × (slice_get routes index ≡ Some entry)
    × AreMatched answer (pattern_view entry.0) texts

-- No route matches the texts, whatever its method.
abbrev pub NoneMatches : {E T : Type 0} → (answer : E → List ℕ → Option Captures)
    → Routes E T → Texts → Type 0
NoneMatches {E} {T} answer routes texts =
    (index : ℕ) (entry : UrlPattern E × Route T) → slice_get routes index ≡ Some entry
    → DoesNotMatch answer (pattern_view entry.0) texts

-- `found` is the first route that takes `HEAD` and matches the texts, and has this method itself.
abbrev pub IsOwnHead : {E T : Type 0} → (answer : E → List ℕ → Option Captures) → Routes E T
    → Texts → Option (ℕ × Bor T × UrlPatternCaptures) → Type 0
IsOwnHead answer routes texts found =
    IsRouteFound answer routes (Takes (codes "HEAD")) texts found
    × IsSomeAnd found (λ own. HasMethodAt routes (codes "HEAD") own.0)

-- The first route that takes `HEAD` and matches the texts serves every method, or there is none.
abbrev pub HasNoOwnHead : {E T : Type 0} → (answer : E → List ℕ → Option Captures) → Routes E T
    → Texts → Type 0
HasNoOwnHead {E} {T} answer routes texts =
    (first : Option (ℕ × Bor T × UrlPatternCaptures))
    × IsRouteFound answer routes (Takes (codes "HEAD")) texts first
    × IfSome first (λ any. ¬ HasMethodAt routes (codes "HEAD") any.0)

-- `found` is the first route that takes `HEAD`, if it has this method itself, else the first that
-- takes `GET`.
abbrev pub IsServedAsHead : {E T : Type 0} → (answer : E → List ℕ → Option Captures)
    → Routes E T → Texts → Option (ℕ × Bor T × UrlPatternCaptures) → Type 0
IsServedAsHead answer routes texts found =
    IsOwnHead answer routes texts found
    ⊎ (HasNoOwnHead answer routes texts
    × IsRouteFound answer routes (Takes (codes "GET")) texts found)

-- `found` is the route that serves a request with this method and eight texts. `None`: no route
-- serves it.
pub record IsServed {E T : Type 0} (answer : E → List ℕ → Option Captures)
    (router : UrlPatternRouter T E) (method : List ℕ) (texts : Texts)
    (found : Option (ℕ × Bor T × UrlPatternCaptures)) : Type 0 where
  pub head : IsHead router method → IsServedAsHead answer router.routes texts found
  pub other : ¬ IsHead router method
      → IsRouteFound answer router.routes (Takes method) texts found

-- What a router returns for a request with this method and eight texts. `Found`: the route that
-- serves it. `MethodNotAllowed`: no route serves it, but some route matches, and the methods are
-- those of the routes that match. `NotFound`: no route matches.
abbrev pub IsRouted : {E T : Type 0} → (answer : E → List ℕ → Option Captures)
    → UrlPatternRouter T E → (method : List ℕ) → Texts → Routed T E → Type 0
IsRouted answer router method texts (Found index value captures) =
    IsServed answer router method texts (Some (index, value, captures))
IsRouted answer router method texts (MethodNotAllowed allowed) =
    IsServed answer router method texts None
    × SomeMatches answer router.routes texts
    × (allowed_left allowed ≡ all_routes router.routes texts)
IsRouted answer router method texts NotFound = NoneMatches answer router.routes texts

-- The text is a path, and `routed` is what the router returns for it.
abbrev pub IsRoutedPath : {E T : Type 0} → (answer : E → List ℕ → Option Captures)
    → UrlPatternRouter T E → (method path : List ℕ) → Routed T E → Type 0
IsRoutedPath answer router method path routed =
    IsPath path × IsRouted answer router method (pathname_alone path) routed

-- An engine is called to find the route that serves `HEAD` as it does `GET`: by a route that takes
-- `HEAD`, or, if the first of them does not have this method itself, by one that takes `GET`; and
-- no such route before it matches.
abbrev pub CallsEngineOfHead : {E T : Type 0} → (answer : E → List ℕ → Option Captures)
    → Routes E T → Texts → Type 0
CallsEngineOfHead answer routes texts =
    CallsEngineBeforeRoute answer routes (Takes (codes "HEAD")) texts
    ⊎ (HasNoOwnHead answer routes texts
    × CallsEngineBeforeRoute answer routes (Takes (codes "GET")) texts)

-- An engine is called to find the route that serves a request with this method and eight texts.
pub record CallsEngineOfServing {E T : Type 0} (answer : E → List ℕ → Option Captures)
    (router : UrlPatternRouter T E) (method : List ℕ) (texts : Texts) : Type 0 where
  pub head : IsHead router method → CallsEngineOfHead answer router.routes texts
  pub other : ¬ IsHead router method
      → CallsEngineBeforeRoute answer router.routes (Takes method) texts

-- An engine is called for a request with this method and eight texts: to find the route that serves
-- it, or, if no route does, by any route before one matches.
abbrev pub CallsEngineOfRequest : {E T : Type 0} → (answer : E → List ℕ → Option Captures)
    → UrlPatternRouter T E → (method : List ℕ) → Texts → Type 0
CallsEngineOfRequest answer router method texts =
    CallsEngineOfServing answer router method texts
    ⊎ (IsServed answer router method texts None
    × CallsEngineBeforeMatch answer (entry_patterns router.routes) texts)

-- What each error of a request for a path says. `NotAPath`: the text is no path. `OutOfMemory`: it
-- is one, and an engine is called for the request.
abbrev pub IsRoutePathError : {E T : Type 0} → (answer : E → List ℕ → Option Captures)
    → UrlPatternRouter T E → (method path : List ℕ) → PathError → Type 0
IsRoutePathError answer router method path paths.NotAPath = ¬ IsPath path
IsRoutePathError answer router method path paths.OutOfMemory =
    IsPath path × CallsEngineOfRequest answer router method (pathname_alone path)

-- ---- the methods of the routes that match

-- Some route calls an engine for the texts.
abbrev pub CallsEngineOfRoutes : {E T : Type 0} → (answer : E → List ℕ → Option Captures)
    → RoutesLeft E T → Type 0
CallsEngineOfRoutes {E} {T} answer left =
    (index : ℕ) × (entry : UrlPattern E × Route T) × (slice_get left.routes index ≡ Some entry)
    × CallsAnEngine answer (pattern_view entry.0) left.texts

-- A route before the index `end` has this method and matches the texts.
abbrev pub HasMethodBefore : {E T : Type 0} → (answer : E → List ℕ → Option Captures)
    → RoutesLeft E T → (method : List ℕ) → (end : ℕ) → Type 0
HasMethodBefore {E} {T} answer left method end =
    (index : ℕ) × (entry : UrlPattern E × Route T) × (index < end)
    × (slice_get left.routes index ≡ Some entry) × HasMethod method entry.1
    × AreMatched answer (pattern_view entry.0) left.texts

-- The route has no method, or one that a route before the index `end` that matches has.
abbrev pub HasNoNewMethod : {E T : Type 0} → (answer : E → List ℕ → Option Captures)
    → RoutesLeft E T → (end : ℕ) → Route T → Type 0
HasNoNewMethod answer left end route =
    (route.method ≡ None)
    ⊎ ((method : List ℕ) × HasMethod method route × HasMethodBefore answer left method end)

-- The entry, whose index is `index`, does not match the texts, has no method, or has one that an
-- earlier entry that matches has.
abbrev pub AddsNoMethod : {E T : Type 0} → (answer : E → List ℕ → Option Captures)
    → RoutesLeft E T → (index : ℕ) → UrlPattern E × Route T → Type 0
AddsNoMethod answer left index (pattern, route) =
    DoesNotMatch answer (pattern_view pattern) left.texts ⊎ HasNoNewMethod answer left index route

-- No route from the index `from` up to `end` adds a method.
abbrev pub NoneAddsMethod : {E T : Type 0} → (answer : E → List ℕ → Option Captures)
    → RoutesLeft E T → (end : ℕ) → Type 0
NoneAddsMethod {E} {T} answer left end =
    (index : ℕ) (entry : UrlPattern E × Route T) → left.from ≤ index → index < end
    → slice_get left.routes index ≡ Some entry → AddsNoMethod answer left index entry

-- The method is that of the route at the index, which matches, and of no route before it that
-- matches; no route from `left.from` on before that one adds a method.
pub record IsNextMethod {E T : Type 0} (answer : E → List ℕ → Option Captures)
    (left : RoutesLeft E T) (index : ℕ) (method : List ℕ) : Type 0 where
  pub later : left.from ≤ index
  pub has : (entry : UrlPattern E × Route T) × (slice_get left.routes index ≡ Some entry)
      × HasMethod method entry.1
      × AreMatched answer (pattern_view entry.0) left.texts
  pub once : ¬ HasMethodBefore answer left method index
  pub before : NoneAddsMethod answer left index

-- A call of `next` of `AllowedMethods`, where `old` and `new` are what is yet to be tried before
-- and after. A method is the next one, and the routes after its index are then left. The error is
-- that an engine ran out of memory, and no route is then left. `None`: no route that is left adds a
-- method.
abbrev pub YieldsMethod : {E T : Type 0} → (answer : E → List ℕ → Option Captures)
    → RoutesLeft E T → Option (Result (Bor (List ℕ)) Error) → RoutesLeft E T → Type 0
YieldsMethod answer old (Some (Ok method)) new =
    (index : ℕ) × IsNextMethod answer old index (chars method.now)
    × (new ≡ record old { from = index + 1 })
YieldsMethod answer old (Some (Err error)) new =
    (error ≡ errors.OutOfMemory) × CallsEngineOfRoutes answer old
    × (new ≡ record old { from = length old.routes })
YieldsMethod answer old None new =
    NoneAddsMethod answer old (length old.routes) × (new ≡ old)

-- ---- the names of routes

-- The route has this name.
abbrev pub HasName : {T : Type 0} → Route T → (name : List ℕ) → Type 0
HasName route name = IsSomeAnd route.name (λ own. text_of own ≡ name)

-- No route before the index `end` has this name.
abbrev pub NoneIsNamedBefore : {E T : Type 0} → Routes E T → (name : List ℕ) → (end : ℕ) → Type 0
NoneIsNamedBefore {E} {T} routes name end =
    (index : ℕ) (entry : UrlPattern E × Route T) → index < end
    → slice_get routes index ≡ Some entry → ¬ HasName entry.1 name

-- No route at the index has this name.
abbrev pub NoneIsNamedAt : {E T : Type 0} → Routes E T → (name : List ℕ) → (index : ℕ) → Type 0
NoneIsNamedAt {E} {T} routes name index =
    (entry : UrlPattern E × Route T) → slice_get routes index ≡ Some entry → ¬ HasName entry.1 name

-- The entry at the index is the first whose route has this name.
abbrev pub IsFirstNamed : {E T : Type 0} → Routes E T → (name : List ℕ) → (index : ℕ)
    → UrlPattern E × Route T → Type 0
IsFirstNamed routes name index entry =
    (slice_get routes index ≡ Some entry) × HasName entry.1 name
    × NoneIsNamedBefore routes name index

-- `found` is the first route with this name: its index, its pattern, and the route. `None`: no
-- route has the name.
abbrev pub IsRouteNamed : {E T : Type 0} → Routes E T → (name : List ℕ)
    → Option (ℕ × Bor (UrlPattern E) × Bor (Route T)) → Type 0
IsRouteNamed routes name (Some (index, pattern, route)) =
    IsFirstNamed routes name index (pattern.now, route.now)
IsRouteNamed routes name None = NoneIsNamedBefore routes name (length routes)

-- Some route has this name, and `Is` is true of the pattern of the first one.
abbrev pub OfRouteNamed : {E T : Type 0} → Routes E T → (name : List ℕ) → (UrlPattern E → Type 0)
    → Type 0
OfRouteNamed {E} {T} routes name Is =
    (index : ℕ) × (entry : UrlPattern E × Route T) × IsFirstNamed routes name index entry
    × Is entry.0

-- The URL is the link of the first route with this name for the values of `groups`, which are
-- percent-encoded: its pattern matches the URL, and what it captures decodes to exactly these
-- values. `None`: no route has the name.
abbrev pub IsRouteLink : {E T : Type 0} → (answer : E → List ℕ → Option Captures) → Routes E T
    → (name : List ℕ) → List GivenView → Option Parts → Type 0
IsRouteLink answer routes name groups (Some url) = OfRouteNamed routes name (λ pattern.
    IsLink answer pattern (encoded_groups groups) url
    × ReturnsDecoded answer pattern groups url
    × HasMatch answer (pattern_view pattern) (inputs.Url url))
IsRouteLink answer routes name groups None = NoneIsNamedBefore routes name (length routes)

-- The error says why the pattern of the first route with this name has no link for the values of
-- `groups`.
abbrev pub RejectsRouteLink : {E T : Type 0} → (answer : E → List ℕ → Option Captures)
    → Routes E T → (name : List ℕ) → List GivenView → NoLink → Type 0
RejectsRouteLink answer routes name groups error =
    OfRouteNamed routes name (λ pattern.
    RejectsEncoded answer pattern (encoded_groups groups) error)

-- ---- adding a route

-- The route has this name, method and value.
pub record IsRoute {T : Type 0} (name method : Option (List ℕ)) (value : T) (route : Route T)
    : Type 0 where
  pub has_name : option_map (λ own. text_of own) route.name ≡ name
  pub has_method : option_map (λ own. text_of own) route.method ≡ method
  pub has_value : route.value ≡ value

-- `new` has a further route after those of `old`: the pattern, with this name, method and value.
abbrev pub AppendsRoute : {E T : Type 0} → (old : UrlPatternRouter T E)
    → (name method : Option (List ℕ)) → UrlPattern E → (value : T) → (new : UrlPatternRouter T E)
    → Type 0
AppendsRoute {E} {T} old name method pattern value new =
    (route : Route T) × IsRoute name method value route
    × (new ≡ record old { routes = old.routes ++ (pattern, route) ∷ [] })

-- No route has the name, if there is one.
abbrev pub IsNewName : {E T : Type 0} → Routes E T → (name : Option (List ℕ)) → Type 0
IsNewName routes name = IfSome name (λ name. NoneIsNamedBefore routes name (length routes))

-- What each error of adding a route says. `NameTaken`: some route has the name. `NotAMethod`: none
-- has it, and the method is no token. `OutOfMemory`: none has it, and the method is a token.
abbrev pub IsRouteError : {E T : Type 0} → Routes E T → (name : Option (List ℕ))
    → (method : List ℕ) → RouteError → Type 0
IsRouteError {E} {T} routes name method NameTaken =
    IsSomeAnd name (λ name. OfRouteNamed routes name (λ pattern. Unit {0}))
IsRouteError routes name method NotAMethod = IsNewName routes name × (¬ IsToken method)
IsRouteError routes name method OutOfMemory = IsNewName routes name × IsToken method

-- The text as which the error is printed.
abbrev pub route_error_text : RouteError → List ℕ
route_error_text NameTaken = codes "another route has the name"
route_error_text NotAMethod = codes "the method is not a token, such as `GET`"
route_error_text OutOfMemory = codes "out of memory"
