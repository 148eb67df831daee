-- The static routes that handles keep. `None` is an empty handle.
use Rattle.std.specs.Global.{Global}
use Rattle.std.specs.Prelude.{◌≡◌, ◌⊎◌, List, [], Option, None, Some, Vec}
use Rattle.std.specs.declared.boxed.Box.{Box}
use Rattle.urlpattern_conditions.specs.declared.table.Rule.{Rule}
use Rattle.urlpattern_engine.specs.declared.pattern_regexp.PatternRegexp.{PatternRegexp}
use Rattle.urlpattern_ffi.specs.declared.status.Status.{Status}
use Rattle.urlpattern_ffi.specs.declared.status.Status.TheVariants as statuses
use Rattle.urlpattern_ffi_routes.specs.declared.routes_box.RoutesBox.{RoutesBox}
use Rattle.urlpattern_route_rules.specs.declared.fault.RouteFault.{RouteFault}
use Rattle.urlpattern_route_rules.specs.declared.rules.RouterRules.{RouterRules}
use Rattle.urlpattern_routes.specs.declared.rule.RouterRule.{RouterRule}

-- Static routes of C, in order, and why they are rejected.
pub record Routes : Type 0 where
  pub rules : List (Rule RouterRule PatternRegexp)
  pub faults : List RouteFault

-- The static routes of an empty handle.
abbrev pub no_routes : Routes
no_routes = record { rules = []; faults = [] }

-- Static routes with the rules and the faults.
abbrev pub routes_with : RouterRules PatternRegexp → Vec RouteFault Global → Routes
routes_with rules faults = record { rules = rules.table.rules.items; faults = faults.items }

-- The static routes that a handle keeps. An empty handle (`None`) keeps none.
abbrev pub kept_routes : Option RoutesBox → Routes
kept_routes None = no_routes
kept_routes (Some kept) = routes_with kept.rules kept.faults

-- The static routes that a handle keeps in a box. An empty handle (`None`) keeps none.
abbrev pub boxed_routes : Option (Box RoutesBox Global) → Routes
boxed_routes None = no_routes
boxed_routes (Some kept) = routes_with kept.value.rules kept.value.faults

-- The outcome of putting `made` into a handle, which is reported by `wanted`. `OutOfMemory` in
-- place of that: the handle is unchanged.
abbrev pub IsKept : (made : Routes) → (wanted : Status) → (old new : Routes) → Status → Type 0
IsKept made wanted old new status =
    ((status ≡ wanted) × (new ≡ made)) ⊎ ((status ≡ statuses.OutOfMemory) × (new ≡ old))
