-- Requests about which static routes decide. What a request has is passed as bytes.
use Rattle.std.specs.Prelude.{◌≡◌, ◌⊎◌, ℕ, All, Bool, List, [], None, Some, length, map, slice_get}
use Rattle.std.specs.Str.{IsUtf8}
use Rattle.url.specs.Parts.{Parts}
use Rattle.urlpattern_conditions.specs.Conditions.{Holds}
use Rattle.urlpattern_conditions.specs.Requests.{RequestView}
use Rattle.urlpattern_conditions.specs.Tables.{IsFirstToHold, rule_conditions}
use Rattle.urlpattern_conditions.specs.declared.table.Rule.{Rule}
use Rattle.urlpattern_engine.specs.PatternRegexps.{pattern_result}
use Rattle.urlpattern_engine.specs.declared.pattern_regexp.PatternRegexp.{PatternRegexp}
use Rattle.urlpattern_ffi.specs.Calls.{IsNoUrl, IsUrlUnderBase}
use Rattle.urlpattern_ffi.specs.TextBuffers.{IsWrittenTo}
use Rattle.urlpattern_ffi.specs.declared.status.Status.{Status}
use Rattle.urlpattern_ffi.specs.declared.status.Status.TheVariants as statuses
use Rattle.urlpattern_ffi_routes.specs.Numbers.{source_number}
use Rattle.urlpattern_init.specs.Inheritance.{texts_of_url}
use Rattle.urlpattern_route_rules.specs.Fetches.{request_with, status as running_status}
use Rattle.urlpattern_routes.specs.Methods.{normalized}
use Rattle.urlpattern_routes.specs.Sources.{source_text}
use Rattle.urlpattern_routes.specs.Views.{source_view}
use Rattle.urlpattern_routes.specs.declared.rule.RouterRule.{RouterRule}

-- Rules of C.
abbrev pub Rules : Type 0
Rules = List (Rule RouterRule PatternRegexp)

-- The request for a URL with this method, mode and destination.
abbrev pub request_for : Parts → (method mode destination : List ℕ) → (is_running : Bool)
    → RequestView
request_for url method mode destination is_running =
    request_with (texts_of_url url) (normalized method) mode destination
    (running_status is_running)

-- The outcome of deciding about a request. `Done`: the condition of the rule at `new` is the first
-- one that holds. `NoMatch`: no condition holds. Unless `Done`, the index is unchanged.
abbrev pub IsDecided : Rules → RequestView → (old new : ℕ) → Status → Type 0
IsDecided rules request old new statuses.Done =
    IsFirstToHold pattern_result request (rule_conditions rules) new
IsDecided rules request old new statuses.NoMatch =
    All (λ one. ¬ Holds pattern_result request one) (rule_conditions rules) × (new ≡ old)
IsDecided rules request old new statuses.OutOfMemory = new ≡ old
IsDecided rules request old new status = ⊥

-- The outcome of deciding about a request that is passed. Either it is read (`IsDecided`), or the
-- status says why it is not, and the index is unchanged.
abbrev pub IsRequestDecided : Rules → (url method mode destination : List ℕ)
    → (is_running : Bool) → (old new : ℕ) → Status → Type 0
IsRequestDecided rules url method mode destination is_running old new status =
    ((parts : Parts) × IsUrlUnderBase url [] parts
    × IsDecided rules (request_for parts method mode destination is_running) old new status)
    ⊎ ((IsNoUrl url [] status
    ⊎ ((status ≡ statuses.NotUtf8)
    × ((¬ IsUtf8 method) ⊎ (¬ IsUtf8 mode) ⊎ (¬ IsUtf8 destination)))) × (new ≡ old))

-- The outcome of writing the source of the rule at `index`. `NoPattern`: there is no such rule.
abbrev pub IsSourceWritten : Rules → (index : ℕ) → (source : ℕ) → (old new : List ℕ)
    → (needed : ℕ) → Status → Type 0
IsSourceWritten rules index source old new needed statuses.NoPattern =
    (slice_get (map (λ rule. rule.value) rules) index ≡ None) × (new ≡ old)
IsSourceWritten rules index source old new needed status =
    (rule : RouterRule) × (slice_get (map (λ rule. rule.value) rules) index ≡ Some rule)
    × (source ≡ source_number (source_view rule.source))
    × (needed ≡ length (source_text (source_view rule.source)))
    × IsWrittenTo (source_text (source_view rule.source)) old new status
