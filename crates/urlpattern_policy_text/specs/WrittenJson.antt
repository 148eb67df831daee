-- The JSON of a policy. Texts are bytes.
use Rattle.std.specs.List.{AllZip}
use Rattle.std.specs.Prelude.{◌≡◌, ℕ, [], Contains, IsSomeAnd, IsTrue, List, MatchBool, None, Ok, Option, Some, option_map, slice_get, string_bytes}
use Rattle.serde_json.specs.Data.{Data}
use Rattle.urlpattern_components.specs.Eight.{at, each}
use Rattle.urlpattern_differences.specs.declared.rules.Effect.{Effect}
use Rattle.urlpattern_init.specs.Inheritance.{given_texts}
use Rattle.urlpattern_init.specs.declared.init.UrlPatternInit.{UrlPatternInit}
use Rattle.urlpattern_inputs.specs.InputValues.{InitView, InputView, of_init, of_text}
use Rattle.urlpattern_matcher.specs.declared.regexp.RegExp.{Ghosts as Engine}
use Rattle.urlpattern_pattern.specs.ReadBack.{InitReadsBack, IsConstructorString, IsPatternInit, TextReadsBack}
use Rattle.urlpattern_pattern.specs.UrlPatterns.{UrlPattern}
use Rattle.urlpattern_policy.specs.declared.policy.PolicyOptions.{PolicyOptions}
use Rattle.urlpattern_policy.specs.declared.policy.UrlPolicy.{UrlPolicy}
use Rattle.urlpattern_policy_json.specs.PolicyTrees.{policy_tree}
use Rattle.urlpattern_policy_json.specs.PolicyViews.{RuleView, SettingsView}
use Rattle.urlpattern_policy_json.specs.ReadPolicies.{member_faults, rule_read, rules_in, settings_read}
use Rattle.urlpattern_policy_text.specs.WrittenPolicies.{has_rule_options}

-- The texts of an init, which has no base URL.
abbrev pub texts_of_init : UrlPatternInit → InitView
texts_of_init init = record {
  texts = each (λ name. option_map string_bytes (at (given_texts init) name));
  base_url = None;
}

-- The pattern as it is written where it has this constructor string: the string, or else its init.
-- None: it has neither.
abbrev pub IsWrittenBeside : {E : Type 0} → Engine E → UrlPattern E → (string : Option (List ℕ))
    → (given : Option InputView) → Type 0
IsWrittenBeside engine pattern (Some string) given = given ≡ Some (of_text string)
IsWrittenBeside engine pattern None given =
    (init : Option UrlPatternInit) × IsPatternInit engine pattern init
    × (given ≡ option_map (λ own. of_init (texts_of_init own)) init)

-- The pattern as it is written, by its constructor string or else by its init, both of which read
-- back. None: it has neither, or other options than the rules of texts.
abbrev pub IsGivenBy : {E : Type 0} → Engine E → UrlPattern E → (given : Option InputView) → Type 0
IsGivenBy engine pattern given =
    MatchBool (has_rule_options pattern)
    ((string : Option (List ℕ)) × IsConstructorString engine pattern string
    × IsWrittenBeside engine pattern string given)
    (given ≡ None)

-- The rule as it is written. None: it is not written.
abbrev pub IsRuleGiven : {E : Type 0} → Engine E → (rule : UrlPattern E × Effect) → Option RuleView
    → Type 0
IsRuleGiven engine rule None = IsGivenBy engine rule.0 None
IsRuleGiven engine rule (Some given) =
    (given.effect ≡ rule.1) × IsGivenBy engine rule.0 (Some given.pattern)

-- What the options say apart from the rules. The patterns have no base URL.
abbrev pub settings_of : PolicyOptions → SettingsView
settings_of options = record {
  base = None;
  default = options.default;
  plain_spelling = options.plain_spelling;
  denies_credentials = options.denies_credentials;
}

-- The JSON has the options of the policy and its rules, in order. None: a rule is not written.
abbrev pub IsJsonOf : {E : Type 0} → Engine E → UrlPolicy E → (tree : Option Data) → Type 0
IsJsonOf {E} engine policy None =
    (rule : UrlPattern E × Effect) × Contains policy.rules rule × IsRuleGiven engine rule None
IsJsonOf engine policy (Some tree) =
    (rules : List RuleView)
    × AllZip (λ rule given. IsRuleGiven engine rule (Some given)) policy.rules rules
    × (tree ≡ policy_tree (settings_of policy.options) rules)

-- ---- law

-- The pattern as it is given is compiled to a pattern with the same parts.
abbrev pub IsReadBackAs : {E : Type 0} → Engine E → (given : InputView) → UrlPattern E → Type 0
IsReadBackAs engine (of_text string) pattern =
    IsSomeAnd pattern.parts (λ parts. TextReadsBack engine parts string)
IsReadBackAs engine (of_init init) pattern =
    IsSomeAnd pattern.parts (λ parts.
    (made : UrlPatternInit) × (init ≡ texts_of_init made) × InitReadsBack engine parts made)

-- The JSON is read as a rule with the same effect, whose pattern has the options of the rules of
-- texts, and is compiled to one with the same parts.
abbrev pub IsRuleReadAs : {E : Type 0} → Engine E → (rule : UrlPattern E × Effect) → Data → Type 0
IsRuleReadAs engine rule tree =
    (given : RuleView) × (rule_read tree ≡ Ok given) × (given.effect ≡ rule.1)
    × IsTrue (has_rule_options rule.0) × IsReadBackAs engine given.pattern rule.0

-- The JSON is read, without a fault, as the options and the rules of the policy, in order.
pub record IsReadAs {E : Type 0} (engine : Engine E) (policy : UrlPolicy E) (tree : Data) : Type 0
  where
    pub faultless : member_faults tree ≡ []
    pub settings : settings_read tree ≡ settings_of policy.options
    pub rules : AllZip (IsRuleReadAs engine) policy.rules (rules_in tree)

-- The JSON of a policy is read as the same policy.
abbrev pub JsonReadsBack : {E : Type 0} → Engine E → Type 0
JsonReadsBack {E} engine =
    (policy : UrlPolicy E) (tree : Data) → IsJsonOf engine policy (Some tree)
    → IsReadAs engine policy tree

-- ---- steps

-- The rule at the index is written as this one. None: it is not written.
abbrev pub IsGivenAt : {E : Type 0} → Engine E → List (UrlPattern E × Effect) → (index : ℕ)
    → (given : Option RuleView) → Type 0
IsGivenAt {E} engine rules index given =
    (rule : UrlPattern E × Effect) × (slice_get rules index ≡ Some rule)
    × IsRuleGiven engine rule given
