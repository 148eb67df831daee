-- Outcomes of calls on a policy. `number` is the number that is returned.
use Rattle.std.specs.Prelude.{◌≡◌, ℕ, Bool}
use Rattle.urlpattern_c.specs.Handles.{policy_in}
use Rattle.urlpattern_c.specs.declared.policy.Policy.{Policy}
use Rattle.urlpattern_engine.specs.declared.pattern_regexp.PatternRegexp.{PatternRegexp}
use Rattle.urlpattern_ffi.specs.Calls.{ReturnsStatus}
use Rattle.urlpattern_ffi.specs.declared.status.Status.{Status}
use Rattle.urlpattern_ffi_tables.specs.KeptPolicies.{IsRuleAdded}
use Rattle.urlpattern_ffi_tables.specs.Verdicts.{verdict_number}
use Rattle.urlpattern_ffi_tables.specs.declared.deciding.Verdict.{Verdict}
use Rattle.urlpattern_pattern.specs.UrlPatterns.{UrlPattern}

-- `number` is the number of a verdict for which `Holds` is true.
abbrev pub ReturnsVerdict : (Holds : Verdict → Type 0) → ℕ → Type 0
ReturnsVerdict Holds number =
    (verdict : Verdict) × (number ≡ verdict_number verdict) × Holds verdict

-- `number` is the status of appending a rule with a pattern for which `IsPattern` is true
-- (`IsRuleAdded`).
abbrev pub AddsRule : (IsPattern : UrlPattern PatternRegexp → Type 0)
    → (IsNoPattern : Status → Type 0) → (old : Policy) → (allows : Bool) → (new : Policy) → ℕ
    → Type 0
AddsRule IsPattern IsNoPattern old allows new number =
    ReturnsStatus (IsRuleAdded IsPattern IsNoPattern (policy_in old) allows (policy_in new)) number
