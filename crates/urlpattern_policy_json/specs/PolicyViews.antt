-- The views of policies as they are given, and of their faults. Texts are bytes.
use Rattle.std.specs.Prelude.{ℕ, Bool, Err, List, Ok, Option, Result, option_copied, string_bytes}
use Rattle.urlpattern_differences.specs.declared.rules.Effect.{Effect}
use Rattle.urlpattern_inputs.specs.InputValues.{InputView, input_view}
use Rattle.urlpattern_policy_json.specs.declared.fault.JsonFault.{JsonFault}
use Rattle.urlpattern_policy_json.specs.declared.fault.JsonPlace.{JsonPlace}
use Rattle.urlpattern_policy_json.specs.declared.fault.JsonPlace.TheVariants as places
use Rattle.urlpattern_policy_json.specs.declared.fault.JsonReason.{JsonReason}
use Rattle.urlpattern_policy_json.specs.declared.fault.ShapeFault.{ShapeFault}
use Rattle.urlpattern_policy_json.specs.declared.given.GivenRule.{GivenRule}
use Rattle.urlpattern_policy_json.specs.declared.given.GivenSettings.{GivenSettings}

-- A rule as it is given.
pub record RuleView : Type 0 where
  pub effect : Effect
  pub pattern : InputView

-- What a policy says apart from its rules. None: it has no base URL.
pub record SettingsView : Type 0 where
  pub base : Option (List ℕ)
  pub default : Effect
  pub plain_spelling : Bool
  pub denies_credentials : Bool

-- Where a policy is at fault.
pub data PlaceView : Type 0 where
  Whole : PlaceView
  Member : (name : List ℕ) → PlaceView
  Rule : (index : ℕ) → PlaceView

-- A fault of a policy.
pub record FaultView : Type 0 where
  pub place : PlaceView
  pub reason : JsonReason

-- The view of a `GivenRule`.
abbrev pub rule_view : GivenRule → RuleView
rule_view rule = record { effect = rule.effect; pattern = input_view rule.pattern }

-- The view of what is read of a rule: the rule, or its fault.
abbrev pub reading_view : Result GivenRule ShapeFault → Result RuleView ShapeFault
reading_view (Ok rule) = Ok (rule_view rule)
reading_view (Err fault) = Err fault

-- The view of `GivenSettings`.
abbrev pub settings_view : GivenSettings → SettingsView
settings_view settings = record {
  base = option_copied settings.base;
  default = settings.default;
  plain_spelling = settings.plain_spelling;
  denies_credentials = settings.denies_credentials;
}

-- The view of a `JsonPlace`.
abbrev pub place_view : JsonPlace → PlaceView
place_view places.Whole = Whole
place_view (places.Member name) = Member (string_bytes name)
place_view (places.Rule index) = Rule index

-- The view of a `JsonFault`.
abbrev pub fault_view : JsonFault → FaultView
fault_view fault = record { place = place_view fault.place; reason = fault.reason }
