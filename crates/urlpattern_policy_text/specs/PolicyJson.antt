-- What the JSON of a policy means, and where it is at fault. Texts are bytes.
use Rattle.std.specs.List.{AllZip}
use Rattle.std.specs.Option.{option_or}
use Rattle.std.specs.Prelude.{◌≡◌, ◌≢◌, ◌⊎◌, ◌+◌, ◌++◌, ◌∷◌, ℕ, Err, List, [], MatchOption, None, Ok, Option, Result, Some, codes, map, option_map}
use Rattle.std.specs.Str.{chars}
use Rattle.serde_json.specs.Data.{Data}
use Rattle.urlpattern_compile.specs.Compiled.{IsPatternOfInit, RejectsInit}
use Rattle.urlpattern_compile.specs.Diagnoses.{AcceptsInit, IsWithinText, ShowsInit}
use Rattle.urlpattern_components.specs.Eight.{at, each}
use Rattle.urlpattern_diagnosis.specs.declared.diagnosis.Diagnosis.{Diagnosis}
use Rattle.urlpattern_diagnosis.specs.declared.diagnosis.Subject.TheVariants as subjects
use Rattle.urlpattern_differences.specs.declared.rules.Effect.{Effect}
use Rattle.urlpattern_init.specs.Inheritance.{values_view}
use Rattle.urlpattern_init.specs.declared.init.UrlPatternInit.{UrlPatternInit}
use Rattle.urlpattern_inputs.specs.InputValues.{InitView, InputView, of_init, of_text}
use Rattle.urlpattern_matcher.specs.declared.regexp.RegExp.{Ghosts as Engine}
use Rattle.urlpattern_pattern.specs.KeptParts.{KeepsPartsOf}
use Rattle.urlpattern_pattern.specs.Patterns.{pattern_view}
use Rattle.urlpattern_pattern.specs.UrlPatterns.{UrlPattern}
use Rattle.urlpattern_policy.specs.declared.policy.PolicyOptions.{PolicyOptions}
use Rattle.urlpattern_policy.specs.declared.policy.UrlPolicy.{UrlPolicy}
use Rattle.urlpattern_policy_json.specs.PolicyViews.{FaultView, Member, PlaceView, RuleView, SettingsView, fault_view}
use Rattle.urlpattern_policy_json.specs.PolicyViews.{Rule as RuleAt}
use Rattle.urlpattern_policy_json.specs.ReadPolicies.{member_faults, rule_read, rules_in, settings_read}
use Rattle.urlpattern_policy_json.specs.declared.fault.JsonFault.{JsonFault}
use Rattle.urlpattern_policy_json.specs.declared.fault.JsonReason.{JsonReason}
use Rattle.urlpattern_policy_json.specs.declared.fault.JsonReason.TheVariants as reasons
use Rattle.urlpattern_policy_text.specs.PolicyTexts.{IsCompiled, IsParsedAs, IsRejected, IsRejectedBase, IsUrl, ShowsWhole, rule_options}
use Rattle.urlpattern_policy_text.specs.declared.json_reading.PolicyJsonError.{PolicyJsonError}
use Rattle.urlpattern_policy_text.specs.declared.json_reading.PolicyJsonError.TheVariants as errors
use Rattle.urlpattern_syntax.specs.Errors.{error_view}

-- ---- patterns

-- The base URL of an init: its own, or else that of the policy.
abbrev pub base_of_init : (base : Option (List ℕ)) → InitView → Option (List ℕ)
base_of_init base init = option_or init.base_url base

-- `made` is the init, with the URL to which its base URL is parsed.
pub record IsInitUnder (base : Option (List ℕ)) (init : InitView) (made : UrlPatternInit) : Type 0
  where
    pub has_texts : values_view made ≡ each (λ name. option_map chars (at init.texts name))
    pub has_base : IsParsedAs (base_of_init base init) made.base_url

-- The init with its base URL parsed is compiled to the pattern, which keeps its parts.
abbrev pub IsMadeCompiled : {E : Type 0} → Engine E → UrlPatternInit → UrlPattern E → Type 0
IsMadeCompiled engine made pattern =
    IsPatternOfInit engine made rule_options (pattern_view pattern)
    × KeepsPartsOf engine made rule_options pattern

-- The pattern as it is given is compiled to the pattern under the base URL.
abbrev pub IsGivenCompiled : {E : Type 0} → Engine E → (base : Option (List ℕ)) → InputView
    → UrlPattern E → Type 0
IsGivenCompiled engine base (of_text text) pattern = IsCompiled engine base text pattern
IsGivenCompiled engine base (of_init init) pattern =
    (made : UrlPatternInit) × IsInitUnder base init made × IsMadeCompiled engine made pattern

-- What the diagnosis shows of a rejected init: where it is at fault; or, if an engine accepts the
-- init when it is compiled again, the whole.
abbrev pub ShowsInitRule : {E : Type 0} → Engine E → UrlPatternInit → Diagnosis → Type 0
ShowsInitRule engine made diagnosis =
    (ShowsInit engine made rule_options diagnosis × IsWithinText diagnosis)
    ⊎ (AcceptsInit engine made rule_options × ShowsWhole subjects.Whole [] diagnosis)

-- The init with its base URL parsed is rejected, and the diagnosis shows why.
abbrev pub IsMadeRejected : {E : Type 0} → Engine E → UrlPatternInit → Diagnosis → Type 0
IsMadeRejected engine made diagnosis =
    RejectsInit engine made rule_options (error_view diagnosis.error)
    × ShowsInitRule engine made diagnosis

-- The init is rejected under the base URL, and the diagnosis shows why.
abbrev pub IsInitRejected : {E : Type 0} → Engine E → (base : Option (List ℕ)) → InitView
    → Diagnosis → Type 0
IsInitRejected engine base init diagnosis =
    IsRejectedBase (base_of_init base init) diagnosis
    ⊎ ((made : UrlPatternInit) × IsInitUnder base init made
    × IsMadeRejected engine made diagnosis)

-- The pattern as it is given is rejected under the base URL, and the diagnosis shows why.
abbrev pub IsGivenRejected : {E : Type 0} → Engine E → (base : Option (List ℕ)) → InputView
    → Diagnosis → Type 0
IsGivenRejected engine base (of_text text) diagnosis = IsRejected engine base text diagnosis
IsGivenRejected engine base (of_init init) diagnosis = IsInitRejected engine base init diagnosis

-- ---- rules

-- What a rule is read as: a pattern with an effect, or its fault.
abbrev pub IsRead : {E : Type 0} → Engine E → (base : Option (List ℕ)) → Data
    → Result (UrlPattern E × Effect) JsonReason → Type 0
IsRead engine base tree (Ok rule) =
    (given : InputView) × (rule_read tree ≡ Ok (record { effect = rule.1; pattern = given }))
    × IsGivenCompiled engine base given rule.0
IsRead engine base tree (Err (reasons.Shape fault)) = rule_read tree ≡ Err fault
IsRead engine base tree (Err (reasons.Rejected diagnosis)) =
    (given : RuleView) × (rule_read tree ≡ Ok given)
    × IsGivenRejected engine base given.pattern diagnosis

-- A fault at a place.
abbrev pub placed : PlaceView → JsonReason → FaultView
placed place reason = record { place = place; reason = reason }

-- The rules among those that are read.
abbrev pub rules_of : {R : Type 0} → List (Result R JsonReason) → List R
rules_of [] = []
rules_of (Ok rule ∷ rest) = rule ∷ rules_of rest
rules_of (Err reason ∷ rest) = rules_of rest

-- The faults among the rules that are read, of which the first has this index.
abbrev pub faults_from : {R : Type 0} → (index : ℕ) → List (Result R JsonReason) → List FaultView
faults_from index [] = []
faults_from index (Ok rule ∷ rest) = faults_from (index + 1) rest
faults_from index (Err reason ∷ rest) =
    placed (RuleAt index) reason ∷ faults_from (index + 1) rest

-- ---- policies

-- The fault of a base URL that `url` rejects.
abbrev pub base_fault : Diagnosis → FaultView
base_fault diagnosis = placed (Member (codes "base")) (reasons.Rejected diagnosis)

-- `base` is the base URL of the patterns: the one that is given, unless `url` rejects it, which is
-- then the fault.
abbrev pub IsBaseRead : (given base : Option (List ℕ)) → (found : List FaultView) → Type 0
IsBaseRead None base found = (base ≡ None) × (found ≡ [])
IsBaseRead (Some text) None found =
    (diagnosis : Diagnosis) × IsRejectedBase (Some text) diagnosis
    × (found ≡ base_fault diagnosis ∷ [])
IsBaseRead (Some text) (Some base) found = (base ≡ text) × IsUrl text × (found ≡ [])

-- The JSON is read as these rules, which are under its base URL, with all of these faults: those of
-- its members, that of the base URL, and those of its rules, in order.
pub record AreReadFrom {E : Type 0} (engine : Engine E) (tree : Data)
    (rules : List (UrlPattern E × Effect)) (found : List FaultView) : Type 0 where
  pub base : Option (List ℕ)
  pub base_faults : List FaultView
  pub is_base : IsBaseRead (settings_read tree).base base base_faults
  pub read : List (Result (UrlPattern E × Effect) JsonReason)
  pub are_read : AllZip (IsRead engine base) (rules_in tree) read
  pub rules_are : rules ≡ rules_of read
  pub found_are : found ≡ (member_faults tree ++ base_faults) ++ faults_from 0 read

-- The options that are given.
abbrev pub options_given : SettingsView → PolicyOptions
options_given settings = record {
  default = settings.default;
  plain_spelling = settings.plain_spelling;
  denies_credentials = settings.denies_credentials;
}

-- The JSON means the policy: it has no fault, and the rules and the options are those that it says.
abbrev pub IsPolicyOfJson : {E : Type 0} → Engine E → Data → UrlPolicy E → Type 0
IsPolicyOfJson engine tree policy =
    AreReadFrom engine tree policy.rules []
    × (policy.options ≡ options_given (settings_read tree))

-- The faults are all that the JSON has, and at least one.
abbrev pub AreFaultsOfJson : {E : Type 0} → Engine E → Data → List JsonFault → Type 0
AreFaultsOfJson {E} engine tree found =
    (found ≢ []) × ((rules : List (UrlPattern E × Effect))
    × AreReadFrom engine tree rules (map fault_view found))

-- Why JSON is no policy.
abbrev pub IsJsonRefusal : {E : Type 0} → Engine E → Data → PolicyJsonError → Type 0
IsJsonRefusal engine tree (errors.Faults found) = AreFaultsOfJson engine tree found.items
IsJsonRefusal engine tree errors.OutOfMemory = Unit {0}

-- ---- steps

-- `base` is the base URL of the patterns, and its fault, if there is one, is appended.
abbrev pub GainsBase : (given base : Option (List ℕ)) → (old new : List FaultView) → Type 0
GainsBase given base old new =
    (found : List FaultView) × IsBaseRead given base found × (new ≡ old ++ found)

-- The rule that is read at the index is appended, or its fault.
abbrev pub AddsRead : {R : Type 0} → (index : ℕ) → Result R JsonReason → (old new : List R)
    → (old_faults new_faults : List FaultView) → Type 0
AddsRead index (Ok rule) old new old_faults new_faults =
    (new ≡ old ++ rule ∷ []) × (new_faults ≡ old_faults)
AddsRead index (Err reason) old new old_faults new_faults =
    (new ≡ old) × (new_faults ≡ old_faults ++ placed (RuleAt index) reason ∷ [])
