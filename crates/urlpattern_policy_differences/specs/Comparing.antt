-- Policies compared, by the automata of their rules.
use Rattle.std.specs.Map.{keys_of, values_of}
use Rattle.std.specs.Prelude.{◌≡◌, ◌++◌, ◌-◌, ◌&&◌, ◌↔◌, ℕ, Bool, true, false, Contains, IsTrue, List, [], MatchBool, MatchOption, None, Option, Some, is_none, nat_lt, not, option_map, slice_get, unwrap_or, if◌then◌else◌}
use Rattle.urlpattern.specs.Reached.{AreReachedBy, HasAutomata, HaveAllAutomata}
use Rattle.urlpattern_compare.specs.CoveringTogether.{AreAscending}
use Rattle.urlpattern_compare.specs.declared.candidates.Limits.{Limits}
use Rattle.urlpattern_compare.specs.declared.common_texts.PatternAutomata.{PatternAutomata}
use Rattle.urlpattern_compare.specs.declared.reaching.Reach.{Reach}
use Rattle.urlpattern_compare.specs.declared.reaching.Reach.TheVariants as reaches
use Rattle.urlpattern_differences.specs.Credentials.{DeniesCredentials}
use Rattle.urlpattern_differences.specs.Deciding.{AppendsRule}
use Rattle.urlpattern_differences.specs.Excess.{IsExcess}
use Rattle.urlpattern_differences.specs.declared.excess.Excess.{Excess}
use Rattle.urlpattern_differences.specs.declared.excess.Excess.TheVariants as excesses
use Rattle.urlpattern_differences.specs.declared.rules.Effect.{Effect}
use Rattle.urlpattern_differences.specs.declared.rules.Effect.TheVariants as effects
use Rattle.urlpattern_differences.specs.declared.rules.PolicyAutomata.{PolicyAutomata}
use Rattle.urlpattern_matcher.specs.declared.regexp.RegExp.{Ghosts as Engine}
use Rattle.urlpattern_pattern.specs.UrlPatterns.{UrlPattern}
use Rattle.urlpattern_pattern.specs.declared.pattern.compare.CompareError.{CompareError}
use Rattle.urlpattern_pattern.specs.declared.pattern.compare.CompareError.TheVariants.{NoParts, OutOfMemory}
use Rattle.urlpattern_policy.specs.Decisions.{Rules}
use Rattle.urlpattern_policy.specs.PolicyWords.{strict_options}
use Rattle.urlpattern_policy_differences.specs.declared.comparing.PolicyExcess.{PolicyExcess}
use Rattle.urlpattern_policy_differences.specs.declared.comparing.PolicyExcess.TheVariants as differences
use Rattle.urlpattern_policy_differences.specs.declared.comparing.PolicyDifference.{PolicyDifference}
use Rattle.urlpattern_policy.specs.declared.decision.DenyReason.{DenyReason}
use Rattle.urlpattern_policy.specs.declared.decision.DenyReason.TheVariants as reasons
use Rattle.urlpattern_policy.specs.declared.policy.PolicyOptions.{PolicyOptions}
use Rattle.urlpattern_policy.specs.declared.policy.UrlPolicy.{UrlPolicy}

-- ---- automata

-- The policy has no rules, and this effect where no rule matches.
pub record IsEmpty (effect : Effect) (it : PolicyAutomata) : Type 0 where
  pub patterns : it.patterns.items ≡ []
  pub effects : it.effects.items ≡ []
  pub default : it.default ≡ effect

-- The automata of a policy with these options and without rules: two rules that deny credentials,
-- if the policy does.
abbrev pub IsOpening : PolicyOptions → PolicyAutomata → Type 0
IsOpening options it =
    (empty : PolicyAutomata) × IsEmpty options.default empty
    × MatchBool options.denies_credentials (DeniesCredentials empty it) (it ≡ empty)

-- `new` is `old` with these rules appended, by the automata of parts of which `engine` made their
-- patterns.
pub record AppendsRules {E : Type 0} (engine : Engine E) (rules : Rules E)
    (old new : PolicyAutomata) : Type 0 where
  pub own : List PatternAutomata
  pub have : HaveAllAutomata engine (keys_of rules) own
  pub patterns : new.patterns.items ≡ old.patterns.items ++ own
  pub effects : new.effects.items ≡ old.effects.items ++ values_of rules
  pub default : new.default ≡ old.default

-- The automata of the policy's rules, after two rules that deny credentials, if the policy does.
abbrev pub IsMadeOf : {E : Type 0} → Engine E → UrlPolicy E → PolicyAutomata → Type 0
IsMadeOf engine policy it =
    (opening : PolicyAutomata) × IsOpening policy.options opening
    × AppendsRules engine policy.rules opening it

-- `new` is `old` with a rule appended that has the automata of the pattern.
abbrev pub AppendsPattern : {E : Type 0} → Engine E → UrlPattern E → Effect
    → (old new : PolicyAutomata) → Type 0
AppendsPattern engine pattern effect old new =
    (one : PatternAutomata) × HasAutomata engine pattern one × AppendsRule old one effect new

-- A policy that allows exactly what the pattern matches.
abbrev pub IsWhole : {E : Type 0} → Engine E → UrlPattern E → PolicyAutomata → Type 0
IsWhole engine pattern it =
    (empty : PolicyAutomata) × IsEmpty effects.Deny empty
    × AppendsPattern engine pattern effects.Allow empty it

-- ---- differences

-- The index in a policy with these options of the rule that has this index in its automata.
abbrev pub rule_of : PolicyOptions → ℕ → ℕ
rule_of options index = if options.denies_credentials then index - 2 else index

-- Why a policy with these options denies, by the rule of its automata that does.
abbrev pub deny_reason : PolicyOptions → Option ℕ → DenyReason
deny_reason options None = reasons.NoRule
deny_reason options (Some index) =
    if options.denies_credentials && nat_lt index 2 then reasons.Credentials
    else reasons.Rule (rule_of options index)

-- What was found for the automata of two policies, by the rules of the policies.
abbrev pub difference_of : (options others : PolicyOptions) → Excess → PolicyExcess
difference_of options others (excesses.Texts found) =
    differences.Texts
    (record {
      texts = found.texts;
      allowing = option_map (rule_of options) found.allowing;
      denying = deny_reason others found.denying;
    })
difference_of options others excesses.Nothing = differences.Nothing
difference_of options others (excesses.Unknown found) =
    differences.Unknown
    (record {
      allowing = option_map (rule_of options) found.allowing;
      denying = deny_reason others found.denying;
      doubt = found.doubt;
    })

-- What was found of texts that the rules `one` allow and the rules `other` deny, of policies with
-- these options.
abbrev pub IsDifferenceOf : Limits → (one other : PolicyAutomata)
    → (options others : PolicyOptions) → PolicyExcess → Type 0
IsDifferenceOf limits one other options others found =
    (excess : Excess) × IsExcess limits one other excess
    × (found ≡ difference_of options others excess)

-- What was found of texts that the policy `one` allows and `other` denies, by the automata of parts
-- of which `engine` made their patterns.
abbrev pub IsDifference : {E : Type 0} → Engine E → Limits → (one other : UrlPolicy E)
    → PolicyExcess → Type 0
IsDifference engine limits one other found =
    (ones others : PolicyAutomata) × IsMadeOf engine one ones × IsMadeOf engine other others
    × IsDifferenceOf limits ones others one.options other.options found

-- What was found of texts that the policy allows and the pattern does not match.
abbrev pub IsWithin : {E : Type 0} → Engine E → Limits → UrlPolicy E → UrlPattern E → PolicyExcess
    → Type 0
IsWithin engine limits policy pattern found =
    (own whole : PolicyAutomata) × IsMadeOf engine policy own × IsWhole engine pattern whole
    × IsDifferenceOf limits own whole policy.options strict_options found

-- Whether policies with these options both bring URLs to their plain spelling, or neither.
abbrev pub is_spelled_alike : (options others : PolicyOptions) → Bool
is_spelled_alike options others =
    if options.plain_spelling then others.plain_spelling else not others.plain_spelling

-- What was found of texts that the one policy allows and the other denies, in both directions, and
-- whether they bring URLs to their plain spelling alike.
pub record AreDifferences {E : Type 0} (engine : Engine E) (limits : Limits) (old new : UrlPolicy E)
    (found : PolicyDifference) : Type 0 where
  pub gained : IsDifference engine limits new old found.gained
  pub lost : IsDifference engine limits old new found.lost
  pub spelling : found.same_spelling ≡ is_spelled_alike old.options new.options

-- ---- dead rules

-- Whether a pattern is never reached.
abbrev pub is_never : Reach → Bool
is_never (reaches.Never by) = true
is_never reach = false

-- The indices, which ascend, are those of the patterns that are never reached.
pub record AreNever (found : List Reach) (dead : List ℕ) : Type 0 where
  pub ascending : AreAscending dead
  pub each : (index : ℕ) → Contains dead index
      ↔ ((reach : Reach) × (slice_get found index ≡ Some reach) × IsTrue (is_never reach))

-- The indices are those of the rules that earlier ones cover, by the automata of parts of which
-- `engine` made the patterns.
abbrev pub AreDead : {E : Type 0} → Engine E → Limits → UrlPolicy E → (dead : List ℕ) → Type 0
AreDead engine limits policy dead =
    (found : List Reach) × AreReachedBy engine limits (keys_of policy.rules) found
    × AreNever found dead

-- ---- steps

-- `new` is `old` with the rule at the index appended, if there is one.
abbrev pub AppendsAt : {E : Type 0} → Engine E → Rules E → (index : ℕ)
    → (old new : PolicyAutomata) → Type 0
AppendsAt engine rules index old new =
    MatchOption (slice_get rules index) (new ≡ old)
    (λ rule. AppendsPattern engine rule.0 rule.1 old new)

-- Whether there is a pattern at the index, and it has no parts.
abbrev pub lacks_parts_at : {E : Type 0} → List (UrlPattern E) → (index : ℕ) → Bool
lacks_parts_at patterns index =
    unwrap_or (option_map (λ pattern. is_none pattern.parts) (slice_get patterns index)) false

-- The error of comparing two lists of patterns with these errors.
abbrev pub first_error : (error other : CompareError) → CompareError
first_error NoParts other = NoParts
first_error OutOfMemory other = other
