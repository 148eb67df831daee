-- The JSON that is written of a policy is read as the same policy.
use Rattle.std.proofs.Common.{◌≡◌, ◌∙◌, ℕ, Bool, true, false, cond, not, ◌&&◌, List, [], ◌∷◌, ◌++◌, None, Option, Ordering, Less, Equal, Greater, Some, Ok, ap, bytes_eq, codes, is_some, map, nat_cmp, option_map, refl, sym}
use Rattle.std.specs.Cmp.Lexicographic.{slice_cmp}
use Rattle.std.specs.List.{list_any}
use Rattle.std.specs.Ordering.{match_ordering}
use Rattle.serde_json.specs.Data.{Data, Members, array, member, no_members, object, put, string}
use Rattle.serde_json.specs.Find.{as_str, get}
use Rattle.serde_json.specs.View.{items_of}
use Rattle.urlpattern_components.specs.Eight.{at, components, name_text}
use Rattle.urlpattern_differences.specs.declared.rules.Effect.{Effect}
use Rattle.urlpattern_differences.specs.declared.rules.Effect.TheVariants as effects
use Rattle.urlpattern_inputs.specs.InputJson.{init_tree, input_read, input_tree}
use Rattle.urlpattern_inputs.specs.InputValues.{InitView, InputView, of_init, of_text}
use Rattle.urlpattern_inputs.specs.Trees.{◌>>=◌, all_with, each_member, with}
use Rattle.urlpattern_inputs.proofs.RoundTrip.{input_again}
use Rattle.urlpattern_inputs.proofs.TreeLemmas.{get_member-all_with, last_of, newer, newer-none}
use Rattle.urlpattern_policy_json.specs.PolicyTrees.{credentials_text, effect_text, policy_members, policy_tree, rule_tree, spelling_text}
use Rattle.urlpattern_policy_json.specs.PolicyViews.{Member, RuleView, SettingsView}
use Rattle.urlpattern_policy_json.specs.ReadPolicies.{are_init_members, choice_fault, fault_at, has_init_members, is_init_member, is_init_name, is_value, items_in, member_faults, pattern_read, rule_read, rule_with, rules_in, settings_read}
use Rattle.urlpattern_policy_json.specs.declared.fault.ShapeFault.{ShapeFault}
use Rattle.urlpattern_policy_json.proofs.TreeLemmas.{items_again}

-- ---- settings

found : (name : List ℕ) (settings : SettingsView) (rules : List RuleView) (tree : Option Data) → last_of name (policy_members settings rules) None ≡ newer tree None → get name (policy_tree settings rules) ≡ tree
found name settings rules tree e = get_member-all_with name (policy_members settings rules) no_members ∙ e ∙ newer-none tree

base_again : (base : Option (List ℕ)) → (option_map string base >>= as_str) ≡ base
base_again None = refl
base_again (Some text) = refl

default_again : (default : Effect) → cond (is_value (codes "allow") (Some (effect_text default))) effects.Allow effects.Deny ≡ default
default_again effects.Allow = refl
default_again effects.Deny = refl

spelling_again : (plain : Bool) → not (is_value (codes "exact") (Some (spelling_text plain))) ≡ plain
spelling_again true = refl
spelling_again false = refl

credentials_again : (denied : Bool) → is_value (codes "deny") (Some (credentials_text denied)) ≡ denied
credentials_again true = refl
credentials_again false = refl

same_settings : (base : Option (List ℕ)) (default : Effect) (plain denied : Bool) (settings : SettingsView) → base ≡ settings.base → default ≡ settings.default → plain ≡ settings.plain_spelling → denied ≡ settings.denies_credentials
    → record { base = base; default = default; plain_spelling = plain; denies_credentials = denied } ≡ settings
same_settings base default plain denied settings b d p c = rw (b, d, p, c) refl

pub settings_again : (settings : SettingsView) (rules : List RuleView) → settings_read (policy_tree settings rules) ≡ settings
settings_again settings rules =
    let text : (value : List ℕ) → Option Data → Bool = λ value tree. is_value value (tree >>= as_str) in
    same_settings _ _ _ _ settings
    (ap (λ tree. tree >>= as_str) (found (codes "base") settings rules (option_map string settings.base) refl) ∙ base_again settings.base)
    (ap (λ tree. cond (text (codes "allow") tree) effects.Allow effects.Deny) (found (codes "default") settings rules (Some (string (effect_text settings.default))) refl) ∙ default_again settings.default)
    (ap (λ tree. not (text (codes "exact") tree)) (found (codes "spelling") settings rules (Some (string (spelling_text settings.plain_spelling))) refl) ∙ spelling_again settings.plain_spelling)
    (ap (text (codes "deny")) (found (codes "credentials") settings rules (Some (string (credentials_text settings.denies_credentials))) refl) ∙ credentials_again settings.denies_credentials)

-- ---- no fault

credentials_fine : (denied : Bool) → choice_fault (codes "deny") (codes "rules") (Some (credentials_text denied)) ≡ None
credentials_fine true = refl
credentials_fine false = refl

default_fine : (default : Effect) → choice_fault (codes "allow") (codes "deny") (Some (effect_text default)) ≡ None
default_fine effects.Allow = refl
default_fine effects.Deny = refl

spelling_fine : (plain : Bool) → choice_fault (codes "plain") (codes "exact") (Some (spelling_text plain)) ≡ None
spelling_fine true = refl
spelling_fine false = refl

no_faults : (credentials default spelling : Option ShapeFault) → credentials ≡ None → default ≡ None → spelling ≡ None
    → fault_at (Member (codes "credentials")) credentials ++ (fault_at (Member (codes "default")) default ++ (fault_at (Member (codes "spelling")) spelling ++ [])) ≡ []
no_faults credentials default spelling c d s = rw (c, d, s) refl

faultless_with : (base : Option (List ℕ)) (default : Effect) (plain denied : Bool) (rules : List RuleView)
    → member_faults (policy_tree (record { base = base; default = default; plain_spelling = plain; denies_credentials = denied }) rules) ≡ []
faultless_with None default plain denied rules = no_faults _ _ _ (credentials_fine denied) (default_fine default) (spelling_fine plain)
faultless_with (Some text) default plain denied rules = no_faults _ _ _ (credentials_fine denied) (default_fine default) (spelling_fine plain)

pub faultless : (settings : SettingsView) (rules : List RuleView) → member_faults (policy_tree settings rules) ≡ []
faultless settings rules = faultless_with settings.base settings.default settings.plain_spelling settings.denies_credentials rules

-- ---- patterns

and_both : (a b : Bool) → a && b ≡ true → (a ≡ true) × (b ≡ true)
and_both true b e = (refl, e)
and_both false b e = absurd cc

both_and : (a b : Bool) → a ≡ true → b ≡ true → a && b ≡ true
both_and a b is is_too = rw (is, is_too) refl

-- Whether a pattern may have a member with this name.
abbrev is_known : List ℕ → Bool
is_known name = is_init_name name

known_by : (o : Ordering) (name key : List ℕ) (tree own : Data) (rest more : Members) → is_init_member name tree ≡ true → is_init_member key own ≡ true → are_init_members rest ≡ true → are_init_members more ≡ true
    → are_init_members (match_ordering o (member name tree (member key own rest)) (member key tree rest) (member key own more)) ≡ true
known_by Less name key tree own rest more one other all and_more = both_and _ _ one (both_and _ _ other all)
known_by Equal name key tree own rest more one other all and_more =
    both_and _ _ (both_and _ _ (and_both (is_known key) (is_some (as_str own)) other).0 (and_both (is_known name) (is_some (as_str tree)) one).1) all
known_by Greater name key tree own rest more one other all and_more = both_and _ _ other and_more

known_put : (name : List ℕ) (tree : Data) (members : Members) → is_init_member name tree ≡ true → are_init_members members ≡ true → are_init_members (put name tree members) ≡ true
known_put name tree no_members one all = both_and _ _ one refl
known_put name tree (member key own rest) one all =
    let (other, more) = and_both (is_init_member key own) (are_init_members rest) all in
    known_by (slice_cmp nat_cmp name key) name key tree own rest (put name tree rest) one other more (known_put name tree rest one more)

-- A text of a pattern with this name may be there.
known_with : (name : List ℕ) (text : Option (List ℕ)) (members : Members) → is_known name ≡ true → are_init_members members ≡ true → are_init_members (with members (name, option_map string text)) ≡ true
known_with name None own known all = all
known_with name (Some text) own known all = known_put name (string text) own (both_and _ _ known refl) all

-- Names with texts, each of which a pattern may have.
AllKnown : List (List ℕ × Option (List ℕ)) → Type 0
AllKnown [] = Unit {0}
AllKnown (named ∷ rest) = (is_known named.0 ≡ true) × AllKnown rest

known_all : (named : List (List ℕ × Option (List ℕ))) (members : Members) → AllKnown named → are_init_members members ≡ true
    → are_init_members (all_with members (map (λ one. (one.0, option_map string one.1)) named)) ≡ true
unfolding AllKnown
known_all [] own known all = all
known_all (named ∷ rest) own known all = known_all rest (with own (named.0, option_map string named.1)) known.1 (known_with named.0 named.1 own known.0 all)

-- The names of an init, with its texts.
abbrev named_texts : InitView → List (List ℕ × Option (List ℕ))
named_texts values = map (λ name. (name_text name, at values.texts name)) components ++ (codes "baseURL", values.base_url) ∷ []

init_known : (values : InitView) → has_init_members (init_tree values) ≡ true
unfolding AllKnown
init_known values = known_all (named_texts values) no_members (refl, (refl, (refl, (refl, (refl, (refl, (refl, (refl, (refl, tt))))))))) refl

pattern_by : (known : Bool) (pattern : InputView) → known ≡ true → cond known (input_read (input_tree pattern)) None ≡ Some pattern
pattern_by known pattern is = rw is (input_again pattern)

pub pattern_again : (pattern : InputView) → pattern_read (input_tree pattern) ≡ Some pattern
pattern_again (of_text bytes) = refl
pattern_again (of_init values) = pattern_by (has_init_members (init_tree values)) (of_init values) (init_known values)

-- ---- rules

rule_with_parts : (effect : Effect) (pattern : InputView) → rule_read (rule_tree (record { effect = effect; pattern = pattern })) ≡ Ok (record { effect = effect; pattern = pattern })
rule_with_parts effects.Allow pattern = ap (rule_with effects.Allow) (pattern_again pattern)
rule_with_parts effects.Deny pattern = ap (rule_with effects.Deny) (pattern_again pattern)

pub rule_again : (rule : RuleView) → rule_read (rule_tree rule) ≡ Ok rule
rule_again rule = rule_with_parts rule.effect rule.pattern

all_again : (rules : List RuleView) → map rule_read (map rule_tree rules) ≡ map (λ rule. Ok rule) rules
all_again [] = refl
all_again (rule ∷ rest) = rw (rule_again rule, all_again rest) refl

-- The rules of what is written.
pub rules_written : (settings : SettingsView) (rules : List RuleView) → rules_in (policy_tree settings rules) ≡ map rule_tree rules
rules_written settings rules = ap items_in (found (codes "rules") settings rules (Some (array (items_of (map rule_tree rules)))) refl) ∙ items_again (map rule_tree rules)

pub rules_again : (settings : SettingsView) (rules : List RuleView) → map rule_read (rules_in (policy_tree settings rules)) ≡ map (λ rule. Ok rule) rules
rules_again settings rules = ap (map rule_read) (rules_written settings rules) ∙ all_again rules
