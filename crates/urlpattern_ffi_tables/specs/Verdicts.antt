-- What a policy decides about a URL, for C. The text and the base URL are passed as bytes.
use Rattle.std.specs.Prelude.{◌≡◌, ◌⊎◌, ◌-◌, ◌^◌, ℕ, List, Some}
use Rattle.url.specs.Parts.{Parts}
use Rattle.urlpattern_engine.specs.PatternRegexps.{pattern_result}
use Rattle.urlpattern_ffi.specs.Calls.{IsNoUrl, IsUrlUnderBase}
use Rattle.urlpattern_ffi.specs.declared.status.Status.{Status}
use Rattle.urlpattern_ffi.specs.declared.status.Status.TheVariants as statuses
use Rattle.urlpattern_ffi_tables.specs.KeptPolicies.{Policy}
use Rattle.urlpattern_ffi_tables.specs.declared.deciding.Verdict.{Verdict}
use Rattle.urlpattern_ffi_tables.specs.declared.deciding.Verdict.TheVariants as verdicts
use Rattle.urlpattern_init.specs.Inheritance.{texts_of_url}
use Rattle.urlpattern_policy.specs.Decisions.{DecidesUrl}
use Rattle.urlpattern_policy.specs.declared.decision.Decision.{Decision}
use Rattle.urlpattern_policy.specs.declared.decision.Decision.TheVariants.{Allow, Deny}
use Rattle.urlpattern_policy.specs.declared.decision.DenyReason.TheVariants as reasons

-- The number of a verdict for C. `Deny` is 0, so that a variable of zeros denies.
abbrev pub verdict_number : Verdict → ℕ
verdict_number verdicts.Deny = 0
verdict_number verdicts.Allow = 1
verdict_number verdicts.NoUrl = 2
verdict_number verdicts.TooLong = 4
verdict_number verdicts.NotUtf8 = 5
verdict_number verdicts.OutOfMemory = 7
verdict_number verdicts.Credentials = 13

-- The verdict for a decision.
abbrev pub verdict_of : Decision → Verdict
verdict_of (Allow rule) = verdicts.Allow
verdict_of (Deny (reasons.Rule index)) = verdicts.Deny
verdict_of (Deny reasons.NoRule) = verdicts.Deny
verdict_of (Deny (reasons.NotAUrl error)) = verdicts.NoUrl
verdict_of (Deny reasons.TooLong) = verdicts.TooLong
verdict_of (Deny reasons.Credentials) = verdicts.Credentials
verdict_of (Deny reasons.OutOfMemory) = verdicts.OutOfMemory

-- What is written in place of an index where no rule decides.
abbrev pub no_rule : ℕ
no_rule = 2 ^ 64 - 1

-- The index of the rule that decides, or `no_rule`.
abbrev pub rule_of : Decision → ℕ
rule_of (Allow (Some index)) = index
rule_of (Deny (reasons.Rule index)) = index
rule_of decision = no_rule

-- The verdict where a text is no URL, by the status that says why.
abbrev pub refusal_of : Status → Verdict
refusal_of statuses.NoUrl = verdicts.NoUrl
refusal_of statuses.TooLong = verdicts.TooLong
refusal_of statuses.NotUtf8 = verdicts.NotUtf8
refusal_of status = verdicts.OutOfMemory

-- What the policy decides about the URL that `text` is, under the base URL `base` unless that is
-- empty, and the rule that decides.
abbrev pub DecidesBytes : Policy → (text base : List ℕ) → (rule : ℕ) → Verdict → Type 0
DecidesBytes policy text base rule verdict =
    (url : Parts) × (decision : Decision) × IsUrlUnderBase text base url
    × DecidesUrl pattern_result policy (texts_of_url url) decision
    × (verdict ≡ verdict_of decision)
    × (rule ≡ rule_of decision)

-- The verdict says why the text with the base URL is no URL, and no rule decides.
abbrev pub RefusesBytes : (text base : List ℕ) → (rule : ℕ) → Verdict → Type 0
RefusesBytes text base rule verdict =
    (status : Status) × IsNoUrl text base status × (verdict ≡ refusal_of status) × (rule ≡ no_rule)

-- What the policy decides about a text: about the URL that it is, or that it is none.
abbrev pub IsDecided : Policy → (text base : List ℕ) → (rule : ℕ) → Verdict → Type 0
IsDecided policy text base rule verdict =
    DecidesBytes policy text base rule verdict ⊎ RefusesBytes text base rule verdict
