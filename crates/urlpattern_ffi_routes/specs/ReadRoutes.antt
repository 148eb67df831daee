-- Static routes that are read from JSON, which is passed as bytes.
use Rattle.serde_json.specs.Data.{Data}
use Rattle.serde_json.specs.Read.{read}
use Rattle.std.specs.Prelude.{◌≡◌, ◌≢◌, ◌⊎◌, ℕ, Bool, List, [], None, Some}
use Rattle.std.specs.Str.{IsUtf8}
use Rattle.url.specs.Parts.{Parts, serialize}
use Rattle.urlpattern_conditions.specs.declared.table.Rule.{Rule}
use Rattle.urlpattern_engine.specs.PatternRegexps.{pattern_engine}
use Rattle.urlpattern_engine.specs.declared.pattern_regexp.PatternRegexp.{PatternRegexp}
use Rattle.urlpattern_ffi.specs.Calls.{IsNoUrl, IsUrlUnderBase}
use Rattle.urlpattern_ffi.specs.declared.status.Status.{Status}
use Rattle.urlpattern_ffi.specs.declared.status.Status.TheVariants as statuses
use Rattle.urlpattern_ffi_routes.specs.KeptRoutes.{Routes, no_routes}
use Rattle.urlpattern_route_rules.specs.Adding.{CompilesCall}
use Rattle.urlpattern_routes.specs.Rules.{browser_limits}
use Rattle.urlpattern_routes.specs.declared.reading.RouterLimits.{RouterLimits}
use Rattle.urlpattern_routes.specs.declared.rule.RouterRule.{RouterRule}

-- The limits of a browser, of a worker with a handler of the event `fetch`, or without one.
abbrev pub limits_with : (has_handler : Bool) → RouterLimits
limits_with has_handler = record browser_limits { has_handler = has_handler }

-- The outcome of compiling rules. `Done`: they have no fault. `Refused`: they have these faults.
-- Unless `Done`, there are no rules.
abbrev pub AreCompiled : (script : List ℕ) → RouterLimits → Data → (new : Routes) → Status → Type 0
AreCompiled script limits tree new statuses.Done =
    CompilesCall pattern_engine script limits tree new.rules [] × (new.faults ≡ [])
AreCompiled script limits tree new statuses.Refused =
    (new.rules ≡ []) × (new.faults ≢ [])
    × ((made : List (Rule RouterRule PatternRegexp))
    × CompilesCall pattern_engine script limits tree made new.faults)
AreCompiled script limits tree new statuses.OutOfMemory = new ≡ no_routes
AreCompiled script limits tree new status = ⊥

-- The status says why a text is not read as JSON. `Refused`: it is none.
abbrev pub IsNoTree : (json : List ℕ) → Status → Type 0
IsNoTree json statuses.NotUtf8 = ¬ IsUtf8 json
IsNoTree json statuses.Refused = read json ≡ None
IsNoTree json statuses.OutOfMemory = Unit {0}
IsNoTree json status = ⊥

-- The outcome of reading rules of the worker whose script has the URL `script`. Either they are
-- compiled (`AreCompiled`), or the status says why one of the two texts is not read, and there are
-- neither rules nor faults.
abbrev pub AreRead : (script json : List ℕ) → (has_handler : Bool) → (new : Routes) → Status
    → Type 0
AreRead script json has_handler new status =
    ((url : Parts) × (tree : Data) × IsUrlUnderBase script [] url × (read json ≡ Some tree)
    × AreCompiled (serialize url) (limits_with has_handler) tree new status)
    ⊎ ((IsNoUrl script [] status ⊎ IsNoTree json status) × (new ≡ no_routes))
