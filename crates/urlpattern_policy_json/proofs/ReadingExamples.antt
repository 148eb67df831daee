-- Worked examples of policies in JSON.
use Rattle.std.proofs.Common.{◌≡◌, ℕ, List, [], ◌∷◌, None, Some, Err, Ok, codes, false, map, refl, true}
use Rattle.serde_json.specs.Data.{Data, array, item, member, no_items, no_members, null, object, string}
use Rattle.urlpattern_differences.specs.declared.rules.Effect.TheVariants as effects
use Rattle.urlpattern_inputs.specs.InputValues.{of_text}
use Rattle.urlpattern_policy_json.specs.PolicyViews.{Member, Whole}
use Rattle.urlpattern_policy_json.specs.ReadPolicies.{fault_at, member_faults, pattern_read, rule_read, rules_in, settings_read}
use Rattle.urlpattern_policy_json.specs.declared.fault.JsonReason.TheVariants as reasons
use Rattle.urlpattern_policy_json.specs.declared.fault.ShapeFault.TheVariants as faults

-- An object with one member.
abbrev one_member : List ℕ → Data → Data
one_member name tree = object (member name tree no_members)

-- Without settings a policy denies where no rule matches, and leaves credentials to the rules.
no_settings : settings_read (object no_members) ≡ record { base = None; default = effects.Deny; plain_spelling = true; denies_credentials = false }
no_settings = refl

one_rule : rule_read (one_member (codes "allow") (string (codes "/a"))) ≡ Ok (record { effect = effects.Allow; pattern = of_text (codes "/a") })
one_rule = refl

two_members : rule_read (object (member (codes "allow") (string []) (member (codes "deny") (string []) no_members))) ≡ Err faults.NotARule
two_members = refl

-- A misspelt component is a fault: the pattern would match each path.
misspelt_component : pattern_read (one_member (codes "pathnam") (string (codes "/a"))) ≡ None
misspelt_component = refl

null_component : rule_read (one_member (codes "deny") (one_member (codes "pathname") null)) ≡ Err faults.NotAPattern
null_component = refl

-- All faults are found at once.
two_faults : member_faults (object (member (codes "default") (string (codes "alow")) (member (codes "rule") (array no_items) no_members)))
    ≡ record { place = Member (codes "default"); reason = reasons.Shape faults.UnknownValue } ∷ record { place = Member (codes "rule"); reason = reasons.Shape faults.UnknownMember } ∷ []
two_faults = refl

no_object : member_faults (array no_items) ≡ fault_at Whole (Some faults.NotAnObject)
no_object = refl
