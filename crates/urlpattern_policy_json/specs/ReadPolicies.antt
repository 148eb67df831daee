-- What the JSON of a policy says, and where its shape is at fault. Texts are bytes.
use Rattle.std.specs.Prelude.{ℕ, Bool, true, false, not, ◌&&◌, ◌||◌, List, [], ◌∷◌, ◌++◌, Err, None, Ok, Option, Result, Some, bytes_eq, codes, is_some, option_map, if◌then◌else◌}
use Rattle.std.specs.List.{list_any}
use Rattle.serde_json.specs.Data.{Data, Items, Members, array, item, member, no_items, no_members, object, string}
use Rattle.serde_json.specs.Find.{as_array, as_str, get}
use Rattle.urlpattern_differences.specs.declared.rules.Effect.{Effect}
use Rattle.urlpattern_differences.specs.declared.rules.Effect.TheVariants as effects
use Rattle.urlpattern_inputs.specs.InputJson.{input_read}
use Rattle.urlpattern_inputs.specs.InputValues.{InputView}
use Rattle.urlpattern_inputs.specs.Trees.{text_read}
use Rattle.urlpattern_policy_json.specs.PolicyViews.{FaultView, Member, PlaceView, RuleView, SettingsView, Whole}
use Rattle.urlpattern_policy_json.specs.declared.fault.JsonReason.TheVariants as reasons
use Rattle.urlpattern_policy_json.specs.declared.fault.ShapeFault.{ShapeFault}
use Rattle.urlpattern_policy_json.specs.declared.fault.ShapeFault.TheVariants as faults

-- ---- settings

-- Whether the text is this value.
abbrev pub is_value : (value : List ℕ) → (text : Option (List ℕ)) → Bool
is_value value None = false
is_value value (Some text) = bytes_eq text value

-- Whether the member with this name is this text.
abbrev pub says : (name value : List ℕ) → Data → Bool
says name value tree = is_value value (text_read name tree)

-- What a policy says apart from its rules. What is missing or at fault is as in a new policy.
abbrev pub settings_read : Data → SettingsView
settings_read tree = record {
  base = text_read (codes "base") tree;
  default = if says (codes "default") (codes "allow") tree then effects.Allow else effects.Deny;
  plain_spelling = not (says (codes "spelling") (codes "exact") tree);
  denies_credentials = says (codes "credentials") (codes "deny") tree;
}

-- ---- faults of members

-- The fault, unless the test is met.
abbrev pub unless : (is_met : Bool) → ShapeFault → Option ShapeFault
unless is_met fault = if is_met then None else Some fault

-- The fault of a value that is to be one of two texts.
abbrev pub choice_fault : (one other : List ℕ) → (text : Option (List ℕ)) → Option ShapeFault
choice_fault one other None = Some faults.NotAText
choice_fault one other (Some text) =
    unless (bytes_eq text one || bytes_eq text other) faults.UnknownValue

-- The fault of the member of a policy with this name, apart from those of its rules.
abbrev pub member_fault : (name : List ℕ) → Data → Option ShapeFault
member_fault name tree =
    if bytes_eq name (codes "base") then unless (is_some (as_str tree)) faults.NotAText
    else (if bytes_eq name (codes "credentials")
    then choice_fault (codes "deny") (codes "rules") (as_str tree)
    else (if bytes_eq name (codes "default")
    then choice_fault (codes "allow") (codes "deny") (as_str tree)
    else (if bytes_eq name (codes "rules") then unless (is_some (as_array tree)) faults.NotAnArray
    else (if bytes_eq name (codes "spelling")
    then choice_fault (codes "plain") (codes "exact") (as_str tree)
    else Some faults.UnknownMember))))

-- A fault of shape at a place, if there is one.
abbrev pub fault_at : PlaceView → Option ShapeFault → List FaultView
fault_at place None = []
fault_at place (Some fault) = record { place = place; reason = reasons.Shape fault } ∷ []

-- The faults of members, in order.
abbrev pub faults_of : Members → List FaultView
faults_of no_members = []
faults_of (member name tree rest) =
    fault_at (Member name) (member_fault name tree) ++ faults_of rest

-- The faults of a policy apart from those of its rules. The members are in the order of their
-- names.
abbrev pub member_faults : Data → List FaultView
member_faults (object members) = faults_of members
member_faults tree = fault_at Whole (Some faults.NotAnObject)

-- ---- patterns

-- The names of the members that a pattern may have.
abbrev pub init_names : List (List ℕ)
init_names =
    codes "protocol" ∷ codes "username" ∷ codes "password" ∷ codes "hostname" ∷ codes "port"
    ∷ codes "pathname" ∷ codes "search" ∷ codes "hash" ∷ codes "baseURL" ∷ []

-- Whether a pattern may have a member with this name.
abbrev pub is_init_name : (name : List ℕ) → Bool
is_init_name name = list_any (λ known. bytes_eq known name) init_names

-- Whether the member may be one of a pattern: a text with the name of a component, or `baseURL`.
abbrev pub is_init_member : (name : List ℕ) → Data → Bool
is_init_member name tree = is_init_name name && is_some (as_str tree)

-- Whether each of the members may be one of a pattern.
abbrev pub are_init_members : Members → Bool
are_init_members no_members = true
are_init_members (member name tree rest) = is_init_member name tree && are_init_members rest

-- Whether each member of an object may be one of a pattern.
abbrev pub has_init_members : Data → Bool
has_init_members (object members) = are_init_members members
has_init_members tree = true

-- The pattern that a value is. None: it is none.
abbrev pub pattern_read : Data → Option InputView
pattern_read tree = if has_init_members tree then input_read tree else None

-- ---- rules

-- The rule with this pattern, or that there is none.
abbrev pub rule_with : Effect → Option InputView → Result RuleView ShapeFault
rule_with effect None = Err faults.NotAPattern
rule_with effect (Some pattern) = Ok (record { effect = effect; pattern = pattern })

-- The effect with this name.
abbrev pub effect_named : (name : List ℕ) → Option Effect
effect_named name =
    if bytes_eq name (codes "allow") then Some effects.Allow
    else (if bytes_eq name (codes "deny") then Some effects.Deny else None)

-- The effect of a rule, and its pattern in JSON, if the value is an object with one member, whose
-- name is that of an effect.
abbrev pub parts_of_rule : Data → Option (Effect × Data)
parts_of_rule (object (member name tree no_members)) =
    option_map (λ effect. (effect, tree)) (effect_named name)
parts_of_rule tree = None

-- The rule that has these parts, or its fault.
abbrev pub rule_of : Option (Effect × Data) → Result RuleView ShapeFault
rule_of None = Err faults.NotARule
rule_of (Some (effect, tree)) = rule_with effect (pattern_read tree)

-- The rule that a value is, or its fault.
abbrev pub rule_read : Data → Result RuleView ShapeFault
rule_read tree = rule_of (parts_of_rule tree)

-- The items as a list.
abbrev pub all_items : Items → List Data
all_items no_items = []
all_items (item tree rest) = tree ∷ all_items rest

-- The items of an array. Other values have none.
abbrev pub items_in : Option Data → List Data
items_in (Some (array items)) = all_items items
items_in tree = []

-- The rules of a policy, in JSON.
abbrev pub rules_in : Data → List Data
rules_in tree = items_in (get (codes "rules") tree)
