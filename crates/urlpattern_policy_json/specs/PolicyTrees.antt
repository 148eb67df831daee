-- The JSON of policies.
use Rattle.std.specs.Prelude.{Bool, List, [], ◌∷◌, ℕ, Option, Some, codes, map, option_map, if◌then◌else◌}
use Rattle.serde_json.specs.Data.{Data, array, string}
use Rattle.serde_json.specs.View.{items_of}
use Rattle.urlpattern_differences.specs.declared.rules.Effect.{Effect}
use Rattle.urlpattern_differences.specs.declared.rules.Effect.TheVariants as effects
use Rattle.urlpattern_inputs.specs.InputJson.{input_tree}
use Rattle.urlpattern_inputs.specs.Trees.{object_of}
use Rattle.urlpattern_policy_json.specs.PolicyViews.{RuleView, SettingsView}

-- An effect in words.
abbrev pub effect_text : Effect → List ℕ
effect_text effects.Allow = codes "allow"
effect_text effects.Deny = codes "deny"

-- Whether credentials are denied, in words.
abbrev pub credentials_text : Bool → List ℕ
credentials_text denied = if denied then codes "deny" else codes "rules"

-- Whether URLs are brought to their plain spelling, in words.
abbrev pub spelling_text : Bool → List ℕ
spelling_text plain = if plain then codes "plain" else codes "exact"

-- A rule: an object with one member.
abbrev pub rule_tree : RuleView → Data
rule_tree rule = object_of ((effect_text rule.effect, Some (input_tree rule.pattern)) ∷ [])

-- The members of a policy. One without a tree is left out.
abbrev pub policy_members : SettingsView → List RuleView → List (List ℕ × Option Data)
policy_members settings rules =
    (codes "base", option_map string settings.base)
    ∷ (codes "credentials", Some (string (credentials_text settings.denies_credentials)))
    ∷ (codes "default", Some (string (effect_text settings.default)))
    ∷ (codes "rules", Some (array (items_of (map rule_tree rules))))
    ∷ (codes "spelling", Some (string (spelling_text settings.plain_spelling)))
    ∷ []

-- A policy: an object.
abbrev pub policy_tree : SettingsView → List RuleView → Data
policy_tree settings rules = object_of (policy_members settings rules)
