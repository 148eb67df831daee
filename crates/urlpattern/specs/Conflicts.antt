-- What conflicts in the routes of a router, whatever the method of a request: routes that are never
-- reached, and pairs of routes that contend.
use Rattle.std.specs.Borrow.{Bor}
use Rattle.std.specs.List.{range_with_len}
use Rattle.std.specs.Map.{keys_of}
use Rattle.std.specs.Prelude.{◌≡◌, ◌⊎◌, [], ◌∷◌, ℕ, All, Contains, List, None, Option, Some, Vec, map, slice_get, unwrap_or}
use Rattle.std.specs.declared.alloc.Global.{Global}
use Rattle.urlpattern.specs.Contending.{AreContentions}
use Rattle.urlpattern.specs.Reached.{HaveAllAutomata}
use Rattle.urlpattern.specs.Routes.{IsServed, Routes, Takes}
use Rattle.urlpattern.specs.declared.contention.Contention.{Contention}
use Rattle.urlpattern.specs.declared.router.UrlPatternRouter.{UrlPatternRouter}
use Rattle.urlpattern.specs.declared.router.route.Route.{Route}
use Rattle.urlpattern.specs.declared.router.route_conflicts.RouteConflicts.{RouteConflicts}
use Rattle.urlpattern.specs.declared.router.route_conflicts.Unreached.{Unreached}
use Rattle.urlpattern.specs.declared.router.route_conflicts.Unreached.TheVariants.{Never, Unknown}
use Rattle.urlpattern.specs.declared.router.route_conflicts.UnreachedRoute.{UnreachedRoute}
use Rattle.urlpattern_compare.specs.Candidates.{AreLines}
use Rattle.urlpattern_compare.specs.CoveringTogether.{AreAscending, at_each}
use Rattle.urlpattern_compare.specs.Reaching.{IsReach}
use Rattle.urlpattern_compare.specs.declared.candidates.Limits.{Limits}
use Rattle.urlpattern_compare.specs.declared.common_texts.Doubt.{Doubt}
use Rattle.urlpattern_compare.specs.declared.common_texts.Doubt.TheVariants.{NoneOf}
use Rattle.urlpattern_compare.specs.declared.common_texts.PatternAutomata.{PatternAutomata}
use Rattle.urlpattern_compare.specs.declared.reaching.Reach.{Reach}
use Rattle.urlpattern_compare.specs.declared.reaching.Reach.TheVariants as reaches
use Rattle.urlpattern_components.specs.Eight.{Texts, at}
use Rattle.urlpattern_matcher.specs.declared.regexp.RegExp.{Ghosts as Engine}
use Rattle.urlpattern_matches.specs.declared.captures.UrlPatternCaptures.{UrlPatternCaptures}
use Rattle.urlpattern_pattern.specs.UrlPatterns.{UrlPattern}

-- ---- the methods of two routes

-- The route takes each method that the other one takes.
abbrev pub TakesAllOf : {T : Type 0} → (route other : Route T) → Type 0
TakesAllOf route other = (method : List ℕ) → Takes method other → Takes method route

-- Some method is taken by both routes.
abbrev pub ShareMethod : {T : Type 0} → (route other : Route T) → Type 0
ShareMethod route other = (method : List ℕ) × Takes method route × Takes method other

-- `Are` holds of the routes at two indices.
abbrev pub OfRoutes : {E T : Type 0} → Routes E T → (Are : (route other : Route T) → Type 0)
    → (index other : ℕ) → Type 0
OfRoutes {E} {T} routes Are index other =
    (one another : UrlPattern E × Route T) × (slice_get routes index ≡ Some one)
    × (slice_get routes other ≡ Some another)
    × Are one.1 another.1

-- `kept` has those of the values for which `Is` holds, in order.
abbrev pub AreKept : {X : Type 0} → (Is : X → Type 0) → (values kept : List X) → Type 0
AreKept Is [] kept = kept ≡ []
AreKept {X} Is (value ∷ values) kept =
    ((¬ Is value) × AreKept Is values kept)
    ⊎ (Is value × (others : List X) × (kept ≡ value ∷ others) × AreKept Is values others)

-- ---- routes that are never reached

-- `earlier` has the indices of the routes before the one at `index` that take each method that it
-- takes.
abbrev pub AreEarlier : {E T : Type 0} → Routes E T → (index : ℕ) → (earlier : List ℕ) → Type 0
AreEarlier routes index earlier =
    AreKept (λ before. OfRoutes routes TakesAllOf before index) (range_with_len 0 index) earlier

-- The doubt, with the index of a route in place of a place in `earlier`.
abbrev pub route_doubt : (earlier : List ℕ) → Doubt → Doubt
route_doubt earlier (NoneOf lack) =
    NoneOf
    (record lack { pattern = unwrap_or (slice_get earlier lack.pattern) lack.pattern })
route_doubt earlier doubt = doubt

-- What a `Reach` after the routes at the indices `earlier` says of a route. First: it is reached.
-- Never: the routes at the indices `by` cover it. Unknown: the doubt.
abbrev pub Reports : (earlier : List ℕ) → Reach → Option Unreached → Type 0
Reports earlier (reaches.First texts) found = found ≡ None
Reports earlier (reaches.Never places) found =
    (by : Vec ℕ Global) × (found ≡ Some (Never by)) × (by.items ≡ at_each earlier places.items)
Reports earlier (reaches.Unknown doubt) found = found ≡ Some (Unknown (route_doubt earlier doubt))

-- Why a pattern with the automata `asked` is never reached after those at the indices `earlier`, or
-- may never be. None: it matches some texts that none of them does.
abbrev pub IsUnreached : Limits → (all : List PatternAutomata) → (earlier : List ℕ)
    → (asked : PatternAutomata) → Option Unreached → Type 0
IsUnreached limits all earlier asked found =
    (reach : Reach) × IsReach limits (at_each all earlier) asked reach
    × Reports earlier reach found

-- Why the route at the index, whose pattern has the automata `asked`, is never reached, or may
-- never be. None: it is reached.
abbrev pub IsUnreachedAt : {E T : Type 0} → Limits → Routes E T → (all : List PatternAutomata)
    → (index : ℕ) → (asked : PatternAutomata) → Option Unreached → Type 0
IsUnreachedAt limits routes all index asked found =
    (earlier : List ℕ) × AreEarlier routes index earlier
    × IsUnreached limits all earlier asked found

-- The list has the route at the index.
abbrev pub HasRoute : List UnreachedRoute → (index : ℕ) → Type 0
HasRoute found index = (one : UnreachedRoute) × Contains found one × (one.route ≡ index)

-- The route is never reached, or may never be.
abbrev pub IsOneUnreached : {E T : Type 0} → Limits → Routes E T → (all : List PatternAutomata)
    → UnreachedRoute → Type 0
IsOneUnreached limits routes all one =
    (asked : PatternAutomata) × (slice_get all one.route ≡ Some asked)
    × IsUnreachedAt limits routes all one.route asked (Some one.found)

-- `found` has the routes that are never reached, or may never be, in order; any others are reached.
-- The patterns of the routes have the automata `all`.
pub record AreUnreached {E T : Type 0} (limits : Limits) (routes : Routes E T)
    (all : List PatternAutomata) (found : List UnreachedRoute) : Type 0 where
  pub unreached : All (IsOneUnreached limits routes all) found
  pub others : (index : ℕ) (asked : PatternAutomata) → slice_get all index ≡ Some asked
      → HasRoute found index ⊎ IsUnreachedAt limits routes all index asked None
  pub order : AreAscending (map (λ one. one.route) found)

-- ---- conflicts

-- `found` has the pairs of routes that share a method and contend, or may.
abbrev pub AreContendingPairs : {E T : Type 0} → Limits → Routes E T
    → (all : List PatternAutomata) → List Contention → Type 0
AreContendingPairs limits routes all found =
    (pairs : List Contention) × AreContentions limits all pairs
    × AreKept (λ pair. OfRoutes routes ShareMethod pair.first pair.second) pairs found

-- `found` has what conflicts in the routes, whose patterns have the automata `all`.
pub record AreConflictsOf {E T : Type 0} (limits : Limits) (routes : Routes E T)
    (all : List PatternAutomata) (found : RouteConflicts) : Type 0 where
  pub unreached : AreUnreached limits routes all found.unreached.items
  pub contending : AreContendingPairs limits routes all found.contending.items

-- `found` has what conflicts in the routes, by the automata of parts of which `engine` made their
-- patterns.
abbrev pub AreConflicts : {E T : Type 0} → Engine E → Limits → Routes E T → RouteConflicts
    → Type 0
AreConflicts engine limits routes found =
    (all : List PatternAutomata) × HaveAllAutomata engine (keys_of routes) all
    × AreConflictsOf limits routes all found

-- ---- law

-- A route of the router that others cover, by `found`, the result of `check`, serves no request
-- with any method and eight texts without line feeds.
abbrev pub UnreachedServeNothing : {E T : Type 0} → Engine E → UrlPatternRouter T E → Type 0
UnreachedServeNothing {E} {T} engine router =
    (limits : Limits) (found : RouteConflicts) → AreConflicts engine limits router.routes found
    → (one : UnreachedRoute) (by : Vec ℕ Global) → Contains found.unreached.items one
    → one.found ≡ Never by
    → (method : List ℕ) (texts : Texts) → AreLines (λ name. at texts name)
    → (value : Bor T) (captures : UrlPatternCaptures)
    → ¬ IsServed engine.answer router method texts (Some (one.route, value, captures))
