-- What the handles of C keep.
use Rattle.urlpattern_c.specs.Memory.{kept_patterns_box, kept_policy_box, kept_router_box, kept_routes_box}
use Rattle.urlpattern_c.specs.declared.patterns.Patterns.{Patterns}
use Rattle.urlpattern_c.specs.declared.policy.Policy.{Policy as PolicyHandle}
use Rattle.urlpattern_c.specs.declared.router.Router.{Router as RouterHandle}
use Rattle.urlpattern_c.specs.declared.static_routes.StaticRoutes.{StaticRoutes}
use Rattle.urlpattern_ffi.specs.KeptPatterns.{PatternList, kept_patterns}
use Rattle.urlpattern_ffi_routes.specs.KeptRoutes.{Routes, kept_routes}
use Rattle.urlpattern_ffi_tables.specs.KeptPolicies.{Policy, kept_policy}
use Rattle.urlpattern_ffi_tables.specs.KeptRouters.{Router, kept_router}

-- The patterns of a handle, in order. An empty handle has no pattern.
abbrev pub patterns_in : Patterns → PatternList
patterns_in patterns = kept_patterns (kept_patterns_box patterns.slot.held)

-- The router of a handle. That of an empty handle has no routes.
abbrev pub router_in : RouterHandle → Router
router_in router = kept_router (kept_router_box router.slot.held)

-- The policy of a handle. That of an empty handle has no rules.
abbrev pub policy_in : PolicyHandle → Policy
policy_in policy = kept_policy (kept_policy_box policy.slot.held)

-- The static routes of a handle. An empty handle has none.
abbrev pub static_routes_in : StaticRoutes → Routes
static_routes_in routes = kept_routes (kept_routes_box routes.slot.held)
