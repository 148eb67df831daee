-- The policies that handles keep. `None` is an empty handle.
use Rattle.std.specs.Arc.{arc_value}
use Rattle.std.specs.Global.{Global}
use Rattle.std.specs.Prelude.{◌≡◌, ◌≢◌, ◌⊎◌, [], Bool, true, false, Option, None, Some}
use Rattle.std.specs.declared.boxed.Box.{Box}
use Rattle.urlpattern_differences.specs.declared.rules.Effect.{Effect}
use Rattle.urlpattern_differences.specs.declared.rules.Effect.TheVariants as effects
use Rattle.urlpattern_engine.specs.declared.pattern_regexp.PatternRegexp.{PatternRegexp}
use Rattle.urlpattern_ffi.specs.declared.status.Status.{Status}
use Rattle.urlpattern_ffi.specs.declared.status.Status.TheVariants as statuses
use Rattle.urlpattern_ffi_tables.specs.declared.policy_box.PolicyBox.{PolicyBox}
use Rattle.urlpattern_pattern.specs.UrlPatterns.{UrlPattern}
use Rattle.urlpattern_policy.specs.Decisions.{AppendsRule}
use Rattle.urlpattern_policy.specs.PolicyWords.{strict_options}
use Rattle.urlpattern_policy.specs.declared.policy.PolicyOptions.{PolicyOptions}
use Rattle.urlpattern_policy.specs.declared.policy.UrlPolicy.{UrlPolicy}

-- A policy of C.
abbrev pub Policy : Type 0
Policy = UrlPolicy PatternRegexp

-- The policy of an empty handle, which denies every URL.
abbrev pub no_rules : Policy
no_rules = record { rules = []; options = strict_options }

-- The policy that a handle keeps. That of an empty handle (`None`) has no rules.
abbrev pub kept_policy : Option PolicyBox → Policy
kept_policy None = no_rules
kept_policy (Some kept) = arc_value kept.policy

-- The policy that a handle keeps in a box. That of an empty handle (`None`) has no rules.
abbrev pub boxed_policy : Option (Box PolicyBox Global) → Policy
boxed_policy None = no_rules
boxed_policy (Some kept) = arc_value kept.value.policy

-- The outcome of giving another handle the policy of one: `Done`, the other one, which had `old`,
-- has it in place of that; or `OutOfMemory`, and it has that which it had.
abbrev pub IsPolicyShared : (policy old new : Policy) → Status → Type 0
IsPolicyShared policy old new statuses.Done = new ≡ policy
IsPolicyShared policy old new statuses.OutOfMemory = new ≡ old
IsPolicyShared policy old new status = ⊥

-- ---- rules

-- What a rule decides: to allow, or to deny.
abbrev pub effect_of : (allows : Bool) → Effect
effect_of true = effects.Allow
effect_of false = effects.Deny

-- The outcome of appending a rule with this pattern. `OutOfMemory`: the policy is unchanged.
-- `Shared`, which says that another handle has the policy: it is unchanged, and has a rule.
abbrev pub IsRulePushed : (old : Policy) → (allows : Bool) → UrlPattern PatternRegexp
    → (new : Policy) → Status → Type 0
IsRulePushed old allows pattern new statuses.Done =
    AppendsRule old pattern (effect_of allows) new
IsRulePushed old allows pattern new statuses.OutOfMemory = new ≡ old
IsRulePushed old allows pattern new statuses.Shared = (old.rules ≢ []) × (new ≡ old)
IsRulePushed old allows pattern new status = ⊥

-- The outcome of appending a rule with a pattern for which `IsPattern` is true (`IsRulePushed`), or
-- there is none, and the status says why (`IsNoPattern`). Unless `Done`, the policy is unchanged.
abbrev pub IsRuleAdded : (IsPattern : UrlPattern PatternRegexp → Type 0)
    → (IsNoPattern : Status → Type 0) → (old : Policy) → (allows : Bool) → (new : Policy) → Status
    → Type 0
IsRuleAdded IsPattern IsNoPattern old allows new status =
    ((pattern : UrlPattern PatternRegexp) × IsPattern pattern
    × IsRulePushed old allows pattern new status)
    ⊎ (IsNoPattern status × (new ≡ old))

-- ---- options

-- What a policy decides apart from its rules: whether it allows a URL that no rule matches, whether
-- it brings a URL to its plain spelling first, and whether it denies one with a user name or a
-- password.
abbrev pub given_options : (allows plain denies : Bool) → PolicyOptions
given_options allows plain denies = record {
  default = effect_of allows;
  plain_spelling = plain;
  denies_credentials = denies;
}

-- The outcome of setting the options of a policy. `OutOfMemory`: the policy is unchanged. `Shared`,
-- which says that another handle has the policy: it is unchanged, and has a rule.
abbrev pub SetsOptions : (old : Policy) → PolicyOptions → (new : Policy) → Status → Type 0
SetsOptions old options new statuses.Done = new ≡ record old { options = options }
SetsOptions old options new statuses.OutOfMemory = new ≡ old
SetsOptions old options new statuses.Shared = (old.rules ≢ []) × (new ≡ old)
SetsOptions old options new status = ⊥

-- The outcome of setting what a policy decides apart from its rules (`given_options`).
abbrev pub AreOptionsSet : (old : Policy) → (allows plain denies : Bool)
    → (new : Policy) → Status → Type 0
AreOptionsSet old allows plain denies new status =
    SetsOptions old (given_options allows plain denies) new status
