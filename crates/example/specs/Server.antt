-- What a request to a server gets, by the routes of the server.
use Rattle.std.specs.Borrow.{Bor}
use Rattle.std.specs.Iterator.{Drains}
use Rattle.std.specs.List.{join_by}
use Rattle.std.specs.Prelude.{◌≡◌, ◌⊎◌, ℕ, IsSomeAnd, IsUtf8, List, [], ◌∷◌, None, Ok, Option, Some, String, codes, map, string_bytes}
use Rattle.std.specs.Str.{chars}
use Rattle.std.specs.declared.alloc.Global.{Global}
use Rattle.example.specs.Users.{default_asked}
use Rattle.example.specs.declared.server.Response.{Response}
use Rattle.example.specs.declared.server.Response.TheVariants.{BadRequest, NotAllowed, NotFound, Page}
use Rattle.urlpattern.specs.BorrowedMatches.{pattern_captures_view}
use Rattle.urlpattern.specs.Compiled.{IsPatternOfInit}
use Rattle.urlpattern.specs.ComponentName.TheVariants.{Hostname, Pathname, Protocol}
use Rattle.urlpattern.specs.DecodedCaptures.{IsDecodedCapture}
use Rattle.urlpattern.specs.EncodedValues.{decoded_bytes}
use Rattle.urlpattern.specs.PatternRegexp.{PatternRegexp}
use Rattle.urlpattern.specs.PatternRegexps.{pattern_engine, pattern_result}
use Rattle.urlpattern.specs.Paths.{IsPath}
use Rattle.urlpattern.specs.Patterns.{pattern_view}
use Rattle.urlpattern.specs.ResultViews.{captured_text}
use Rattle.urlpattern.specs.Routes.{IsRoute, IsRoutedPath, YieldsMethod, allowed_left}
use Rattle.urlpattern.specs.Text.{text_of}
use Rattle.urlpattern.specs.UrlPatternCaptures.{UrlPatternCaptures}
use Rattle.urlpattern.specs.UrlPatternInit.{UrlPatternInit}
use Rattle.urlpattern.specs.UrlPatterns.{UrlPattern}
use Rattle.urlpattern.specs.WriteSettings.{GivenView}
use Rattle.urlpattern.specs.declared.router.UrlPatternRouter.{UrlPatternRouter}
use Rattle.urlpattern.specs.declared.router.allowed_methods.AllowedMethods.{AllowedMethods}
use Rattle.urlpattern.specs.declared.router.route.Route.{Route}
use Rattle.urlpattern.specs.declared.router.routed.Routed.TheVariants as routed

-- A router whose values are the names of pages.
abbrev pub Pages : Type 0
Pages = UrlPatternRouter (Bor (List ℕ)) PatternRegexp

-- ---- the routes

-- The init with this path, which leaves all other components open.
abbrev pub path_init : String Global → UrlPatternInit
path_init path = record {
  pathname = Some path;
  base_url = None;
  hash = None;
  search = None;
  port = None;
  hostname = None;
  password = None;
  username = None;
  protocol = None;
}

-- The pattern is compiled from the path alone, under the default options.
abbrev pub IsPatternOfPath : (path : List ℕ) → UrlPattern PatternRegexp → Type 0
IsPatternOfPath path pattern =
    (text : String Global) × (text_of text ≡ path)
    × IsPatternOfInit pattern_engine (path_init text) default_asked (pattern_view pattern)

-- The entry is the route for the method and the path of a row, whose page is its value and its
-- name.
abbrev pub IsRouteOf : Bor (List ℕ) × Bor (List ℕ) × Bor (List ℕ)
    → UrlPattern PatternRegexp × Route (Bor (List ℕ)) → Type 0
IsRouteOf (method, path, page) (pattern, route) =
    IsPatternOfPath (chars path.now) pattern
    × IsRoute (Some (chars page.now)) (Some (chars method.now)) page route

-- ---- a request

-- What the group `id` of the path captures in a match. None: there is no such group, or it takes no
-- part.
abbrev pub captured_id : UrlPatternCaptures → Option (List ℕ)
captured_id found = captured_text (pattern_captures_view found Pathname) (chars (codes "id"))

-- The bytes that the id stands for, percent-decoded, are not UTF-8.
abbrev pub IsBadId : (id : Option (List ℕ)) → Type 0
IsBadId id = IsSomeAnd id (λ text. ¬ IsUtf8 (decoded_bytes text))

-- The first route that serves the method and the path has this page, and `Is` holds for the id that
-- it captures.
abbrev pub HasPage : Pages → (method path : List ℕ) → (page : Bor (List ℕ))
    → (Is : Option (List ℕ) → Type 0) → Type 0
HasPage pages method path page Is =
    (index : ℕ) × (value : Bor (Bor (List ℕ))) × (found : UrlPatternCaptures)
    × IsRoutedPath pattern_result pages method path (routed.Found index value found)
    × (value.now ≡ page)
    × Is (captured_id found)

-- The text has the methods that `methods` returns, joined by commas.
abbrev pub IsAllow : AllowedMethods (Bor (List ℕ)) PatternRegexp → String Global → Type 0
IsAllow methods text =
    (names : List (Bor (List ℕ)))
    × Drains
    (λ old found new. YieldsMethod pattern_result (allowed_left old) found (allowed_left new))
    methods (map (λ name. Ok name) names)
    × (string_bytes text ≡ join_by (λ name. name.now) (codes ", ") names)

-- What a request with this method and path gets. `Page`: the first route that serves it has the
-- page, and the id that it captures is the decoded one. `NotAllowed`: no route serves it, but some
-- route matches, and the text has the methods of those. `NotFound`: no route matches. `BadRequest`:
-- the path is no path, or the id is not UTF-8.
abbrev pub IsResponse : Pages → (method path : List ℕ) → Response → Type 0
IsResponse pages method path (Page page id) =
    HasPage pages method path page (λ capture. IsDecodedCapture capture (Ok id))
IsResponse pages method path (NotAllowed allow) =
    (methods : AllowedMethods (Bor (List ℕ)) PatternRegexp)
    × IsRoutedPath pattern_result pages method path (routed.MethodNotAllowed methods)
    × IsAllow methods allow
IsResponse pages method path NotFound =
    IsRoutedPath pattern_result pages method path routed.NotFound
IsResponse pages method path BadRequest =
    (¬ IsPath path) ⊎ ((page : Bor (List ℕ)) × HasPage pages method path page IsBadId)

-- What the request gets that a route with this page serves and that captures this id.
abbrev pub IsShown : (page : Bor (List ℕ)) → (id : Option (List ℕ)) → Response → Type 0
IsShown page id (Page shown decoded) = (shown ≡ page) × IsDecodedCapture id (Ok decoded)
IsShown page id (NotAllowed allow) = ⊥
IsShown page id NotFound = ⊥
IsShown page id BadRequest = IsBadId id

-- ---- a link

-- The values of the groups of a user's page.
abbrev pub user_groups : (id : List ℕ) → List GivenView
user_groups id =
    record { component = Protocol; name = chars (codes "0"); text = chars (codes "https") }
    ∷ record { component = Hostname; name = chars (codes "0"); text = chars (codes "example.com") }
    ∷ record { component = Pathname; name = chars (codes "id"); text = id } ∷ []
