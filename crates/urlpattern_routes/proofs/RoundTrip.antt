-- Rules without a fault, written as JSON, are read as the same rules, without a fault.
use Rattle.std.proofs.Common.{◌≡◌, ℕ, zero, suc, Bool, true, false, cond, not, ◌||◌, List, [], ◌∷◌, ◌++◌, None, Option, Some, Result, Ok, Err, ◌∙◌, ap, arith, codes, is_some, map, option_map, refl, subst, sym}
use Rattle.std.proofs.lemmas.Bool.Decides.{nat_tests}
use Rattle.std.proofs.lemmas.Slice.Eq.{bytes_eq-Decides}
use Rattle.std.specs.Char.{to_ascii_lowercase, to_ascii_uppercase}
use Rattle.std.specs.List.{list_any}
use Rattle.std.specs.Prelude.{flat_map}
use Rattle.serde_json.specs.Data.{Data, array, boolean, no_members, null, number, object, string}
use Rattle.serde_json.specs.Find.{get}
use Rattle.serde_json.specs.View.{items_of}
use Rattle.urlpattern_inputs.specs.InputJson.{input_tree}
use Rattle.urlpattern_inputs.specs.InputValues.{InputView, of_init, of_text}
use Rattle.urlpattern_inputs.proofs.RoundTrip.{input_again}
use Rattle.urlpattern_inputs.proofs.TreeLemmas.{get_member-all_with, last_of, newer, newer-none}
use Rattle.urlpattern_routes.specs.Conditions.{all_items, condition_faults, condition_of, condition_with, faults_with, has_own_member, is_or_alone, list_faults}
use Rattle.urlpattern_routes.specs.Conditions.{items_of as items_in}
use Rattle.urlpattern_routes.specs.Faults.{fault_unless}
use Rattle.urlpattern_routes.specs.Members.{name_faults, name_in, pattern_faults, pattern_in, pattern_read, request_faults, request_in}
use Rattle.urlpattern_routes.specs.Methods.{is_same, normalized, normalized_methods}
use Rattle.urlpattern_routes.specs.Names.{kept_name, member_name, name_of, name_read, rejection, unless_rejected}
use Rattle.urlpattern_routes.specs.ReadBack.{RulesAreReadBack}
use Rattle.urlpattern_routes.specs.Rules.{condition_of_rule, condition_of_rule_faults, reading_of, rule_faults, rule_of, rules_in}
use Rattle.urlpattern_routes.specs.Sources.{cache_in, cache_named, handled, source_faults, source_in, source_of, source_read}
use Rattle.urlpattern_routes.specs.Texts.{text_read}
use Rattle.urlpattern_routes.specs.Trees.{condition_tree, request_members, request_tree, rule_tree, source_tree, tree_items}
use Rattle.urlpattern_routes.specs.Views.{ConditionView, RequestView, RuleView, SourceView, cache, fetch_event, listed, named_cache, network, of_not, of_or, race}
use Rattle.urlpattern_routes.specs.declared.attribute.RouterAttribute.{RouterAttribute}
use Rattle.urlpattern_routes.specs.declared.attribute.RouterAttribute.TheVariants.{Destination, Method, Mode, RunningStatus}
use Rattle.urlpattern_routes.specs.declared.fault.RouterMember.{RouterMember}
use Rattle.urlpattern_routes.specs.declared.fault.RouterMember.TheVariants as members
use Rattle.urlpattern_routes.specs.declared.fault.RouterReason.{RouterReason}
use Rattle.urlpattern_routes.specs.declared.fault.RouterReason.TheVariants as reasons
use Rattle.urlpattern_routes.specs.declared.reading.RouterLimits.{RouterLimits}

nil-first : {X : Type 0} (xs ys : List X) → xs ++ ys ≡ [] → xs ≡ []
nil-first [] ys e = refl
nil-first (x ∷ xs) ys e = absurd cc

nil-second : {X : Type 0} (xs ys : List X) → xs ++ ys ≡ [] → ys ≡ []
nil-second [] ys e = e
nil-second (x ∷ xs) ys e = absurd cc

met : (is_met : Bool) (member : RouterMember) (reason : RouterReason) → fault_unless is_met member reason ≡ [] → is_met ≡ true
met true member reason e = refl
met false member reason e = absurd cc

-- ---- methods

upper-lower : (c : ℕ) → to_ascii_uppercase (to_ascii_lowercase c) ≡ to_ascii_uppercase c
upper-lower c = grind (arith, nat_tests)

uppers-lower : (text : List ℕ) → map to_ascii_uppercase (map to_ascii_lowercase text) ≡ map to_ascii_uppercase text
uppers-lower [] = refl
uppers-lower (c ∷ text) = rw (upper-lower c, uppers-lower text) refl

capitals : (name text : List ℕ) → is_same name text ≡ true → map to_ascii_uppercase text ≡ map to_ascii_uppercase name
capitals name text same =
    let lower : map to_ascii_lowercase name ≡ map to_ascii_lowercase text = (bytes_eq-Decides _ _).0 same in
    sym (uppers-lower text) ∙ ap (λ all. map to_ascii_uppercase all) (sym lower) ∙ uppers-lower name

-- The text is a method as a request has it.
abbrev IsKept : List ℕ → Type 0
IsKept text = (rejection Method text ≡ None) × (normalized text ≡ text)

kept-in_capitals : (name text : List ℕ) → IsKept (map to_ascii_uppercase name) → is_same name text ≡ true → IsKept (map to_ascii_uppercase text)
kept-in_capitals name text kept same = rw (capitals name text same) kept

choose : {P : Type 0} (a b : Bool) → (a ≡ true → P) → (b ≡ true → P) → (a || b) ≡ true → P
choose true b first second e = first refl
choose false b first second e = second e

among-capitals : (text : List ℕ) → list_any (λ name. is_same name text) normalized_methods ≡ true → IsKept (map to_ascii_uppercase text)
among-capitals text among =
    choose (is_same (codes "DELETE") text) _ (kept-in_capitals (codes "DELETE") text (refl, refl))
    (choose (is_same (codes "GET") text) _ (kept-in_capitals (codes "GET") text (refl, refl))
    (choose (is_same (codes "HEAD") text) _ (kept-in_capitals (codes "HEAD") text (refl, refl))
    (choose (is_same (codes "OPTIONS") text) _ (kept-in_capitals (codes "OPTIONS") text (refl, refl))
    (choose (is_same (codes "POST") text) _ (kept-in_capitals (codes "POST") text (refl, refl))
    (choose (is_same (codes "PUT") text) false (kept-in_capitals (codes "PUT") text (refl, refl)) (λ e. absurd cc)))))) among

method-chosen : (is_among : Bool) (text : List ℕ) → list_any (λ name. is_same name text) normalized_methods ≡ is_among → rejection Method text ≡ None → IsKept (cond is_among (map to_ascii_uppercase text) text)
method-chosen true text is fine = among-capitals text is
method-chosen false text is fine = (fine, rw is refl)

kept-again : (attribute : RouterAttribute) (text : List ℕ) → rejection attribute text ≡ None → (rejection attribute (kept_name attribute text) ≡ None) × (kept_name attribute (kept_name attribute text) ≡ kept_name attribute text)
kept-again Method text fine = method-chosen _ text refl fine
kept-again Mode text fine = (fine, refl)
kept-again Destination text fine = (fine, refl)
kept-again RunningStatus text fine = (fine, refl)

-- ---- names

unrejected-again : (attribute : RouterAttribute) (text : List ℕ) (why : Option RouterReason) (name : List ℕ) → rejection attribute text ≡ why → unless_rejected why (kept_name attribute text) ≡ Ok name → name_of attribute (Some name) ≡ Ok name
unrejected-again attribute text (Some reason) name is e = absurd cc
unrejected-again attribute text None name is e =
    let same : kept_name attribute text ≡ name = cc in
    let kept = kept-again attribute text is in
    rw (← same, kept.0, kept.1) refl

text-again : (attribute : RouterAttribute) (read : Option (List ℕ)) (name : List ℕ) → name_of attribute read ≡ Ok name → name_of attribute (Some name) ≡ Ok name
text-again attribute None name e = absurd cc
text-again attribute (Some text) name e = unrejected-again attribute text (rejection attribute text) name refl e

name-again : (attribute : RouterAttribute) (tree : Data) (name : List ℕ) → name_read attribute tree ≡ Ok name → name_read attribute (string name) ≡ Ok name
name-again attribute tree name e = text-again attribute (text_read tree) name e

-- A member of `again` is read as that of `tree`, without a fault.
record NameAgain (attribute : RouterAttribute) (tree again : Data) : Type 0 where
  same : name_in attribute again ≡ name_in attribute tree
  fine : name_faults attribute again ≡ []
  has : is_some (get (member_name attribute) again) ≡ is_some (get (member_name attribute) tree)

name-of_read : (attribute : RouterAttribute) (tree again member : Data) (read : Result (List ℕ) RouterReason) → get (member_name attribute) tree ≡ Some member → name_read attribute member ≡ read
    → name_faults attribute tree ≡ [] → get (member_name attribute) again ≡ option_map string (name_in attribute tree) → NameAgain attribute tree again
name-of_read attribute tree again member (Err reason) is reads fine found = absurd (let none = rw (is, reads) at fine in cc)
name-of_read attribute tree again member (Ok name) is reads fine found =
    let there = rw (is, reads) at found in
    let reads_again = name-again attribute member name reads in
    record { same = rw (there, is, reads_again, reads) refl; fine = rw (there, reads_again) refl; has = rw (there, is) refl }

name-of_member : (attribute : RouterAttribute) (tree again : Data) (member : Option Data) → get (member_name attribute) tree ≡ member
    → name_faults attribute tree ≡ [] → get (member_name attribute) again ≡ option_map string (name_in attribute tree) → NameAgain attribute tree again
name-of_member attribute tree again None is fine found =
    let none = rw is at found in
    record { same = rw (none, is) refl; fine = rw none refl; has = rw (none, is) refl }
name-of_member attribute tree again (Some member) is fine found = name-of_read attribute tree again member (name_read attribute member) is refl fine found

name-kept : (attribute : RouterAttribute) (tree again : Data) → name_faults attribute tree ≡ [] → get (member_name attribute) again ≡ option_map string (name_in attribute tree) → NameAgain attribute tree again
name-kept attribute tree again fine found = name-of_member attribute tree again (get (member_name attribute) tree) refl fine found

-- ---- patterns

pattern-read : (input : InputView) → pattern_read (input_tree input) ≡ Some input
pattern-read (of_text bytes) = refl
pattern-read (of_init values) = input_again (of_init values)

record PatternAgain (tree again : Data) : Type 0 where
  same : pattern_in again ≡ pattern_in tree
  fine : pattern_faults again ≡ []
  has : is_some (get (codes "urlPattern") again) ≡ is_some (get (codes "urlPattern") tree)

pattern-of_read : (tree again member : Data) (read : Option InputView) → get (codes "urlPattern") tree ≡ Some member → pattern_read member ≡ read
    → pattern_faults tree ≡ [] → get (codes "urlPattern") again ≡ option_map input_tree (pattern_in tree) → PatternAgain tree again
pattern-of_read tree again member None is reads fine found = absurd (let none = rw (is, reads) at fine in cc)
pattern-of_read tree again member (Some input) is reads fine found =
    let there = rw (is, reads) at found in
    record { same = rw (there, is, pattern-read input, reads) refl; fine = rw (there, pattern-read input) refl; has = rw (there, is) refl }

pattern-of_member : (tree again : Data) (member : Option Data) → get (codes "urlPattern") tree ≡ member
    → pattern_faults tree ≡ [] → get (codes "urlPattern") again ≡ option_map input_tree (pattern_in tree) → PatternAgain tree again
pattern-of_member tree again None is fine found =
    let none = rw is at found in
    record { same = rw (none, is) refl; fine = rw none refl; has = rw (none, is) refl }
pattern-of_member tree again (Some member) is fine found = pattern-of_read tree again member (pattern_read member) is refl fine found

-- ---- what a condition asks of a request

written : (name : List ℕ) (request : RequestView) (tree : Option Data) → last_of name (request_members request) None ≡ newer tree None → get name (request_tree request) ≡ tree
written name request tree e = get_member-all_with name (request_members request) no_members ∙ e ∙ newer-none tree

same-request : (tree again : Data) → PatternAgain tree again → NameAgain Method tree again → NameAgain Mode tree again → NameAgain Destination tree again → NameAgain RunningStatus tree again
    → (request_in again ≡ request_in tree) × (request_faults again ≡ []) × (has_own_member again ≡ has_own_member tree)
same-request tree again pattern method mode destination status = (
  rw (pattern.same, method.same, mode.same, destination.same, status.same) refl,
  rw (pattern.fine, method.fine, mode.fine, destination.fine, status.fine) refl,
  rw (pattern.has, method.has, mode.has, destination.has, status.has) refl,
)

request-again : (tree : Data) → request_faults tree ≡ [] → let again = request_tree (request_in tree) in
    (request_in again ≡ request_in tree) × (request_faults again ≡ []) × (has_own_member again ≡ has_own_member tree)
request-again tree none =
    let request = request_in tree in
    let again = request_tree request in
    let to_method = pattern_faults tree ++ name_faults Method tree in
    let to_mode = to_method ++ name_faults Mode tree in
    let to_destination = to_mode ++ name_faults Destination tree in
    let no_destination = nil-first to_destination (name_faults RunningStatus tree) none in
    let no_mode = nil-first to_mode (name_faults Destination tree) no_destination in
    let no_method = nil-first to_method (name_faults Mode tree) no_mode in
    same-request tree again
    (pattern-of_member tree again (get (codes "urlPattern") tree) refl (nil-first (pattern_faults tree) (name_faults Method tree) no_method) (written (codes "urlPattern") request _ refl))
    (name-kept Method tree again (nil-second (pattern_faults tree) (name_faults Method tree) no_method) (written (codes "requestMethod") request _ refl))
    (name-kept Mode tree again (nil-second to_method (name_faults Mode tree) no_mode) (written (codes "requestMode") request _ refl))
    (name-kept Destination tree again (nil-second to_mode (name_faults Destination tree) no_destination) (written (codes "requestDestination") request _ refl))
    (name-kept RunningStatus tree again (nil-second to_destination (name_faults RunningStatus tree) none) (written (codes "runningStatus") request _ refl))

-- ---- conditions

-- The condition, written and read again within this depth, is the same, and has no fault.
record ConditionAgain (depth : ℕ) (other : RouterMember) (one : ConditionView) : Type 0 where
  same : condition_of depth (condition_tree one) ≡ one
  fine : condition_faults depth other (condition_tree one) ≡ []

-- Each condition of this depth without a fault is the same again.
abbrev AllAgain : ℕ → Type 0
AllAgain depth = (member other : RouterMember) (tree : Data) → condition_faults depth member tree ≡ [] → ConditionAgain depth other (condition_of depth tree)

abbrev read_all : ℕ → List Data → List ConditionView
read_all depth trees = map (λ one. condition_of depth one) trees

items-again : (depth : ℕ) (inner : AllAgain depth) (trees : List Data) → flat_map (condition_faults depth members.Or) trees ≡ []
    → (read_all depth (all_items (tree_items (listed (read_all depth trees)))) ≡ read_all depth trees)
    × (flat_map (condition_faults depth members.Or) (all_items (tree_items (listed (read_all depth trees)))) ≡ [])
items-again depth inner [] none = (refl, refl)
items-again depth inner (tree ∷ rest) none =
    let one = inner members.Or members.Or tree (nil-first (condition_faults depth members.Or tree) (flat_map (condition_faults depth members.Or) rest) none) in
    let more = items-again depth inner rest (nil-second (condition_faults depth members.Or tree) (flat_map (condition_faults depth members.Or) rest) none) in
    (rw (one.same, more.0) refl, rw (one.fine, more.1) refl)

step-again : (depth : ℕ) (inner : AllAgain depth) (member other : RouterMember) (tree : Data) (or_member not_member : Option Data)
    → faults_with (λ within one. condition_faults depth within one) member or_member not_member tree ≡ [] → ConditionAgain (suc depth) other (condition_with (λ one. condition_of depth one) or_member not_member tree)
step-again depth inner member other tree (Some list) not_member none =
    let each = flat_map (condition_faults depth members.Or) (items_in list) in
    let more = items-again depth inner (items_in list)
    (nil-second (list_faults list) each (nil-second (fault_unless (is_or_alone tree) members.Or reasons.NotAlone) (list_faults list ++ each) none)) in
    record { same = ap of_or (ap listed more.0); fine = more.1 }
step-again depth inner member other tree None (Some one) none =
    let again = inner members.Not members.Not one (nil-second (fault_unless (not (has_own_member tree)) members.Not reasons.NotAlone) (condition_faults depth members.Not one) none) in
    record { same = ap of_not again.same; fine = again.fine }
step-again depth inner member other tree None None none =
    let again = request-again tree (nil-second (fault_unless (has_own_member tree) member reasons.Empty) (request_faults tree) none) in
    let own = met (has_own_member tree) member reasons.Empty (nil-first (fault_unless (has_own_member tree) member reasons.Empty) (request_faults tree) none) in
    let request = request_in tree in
    let no_or = written (codes "or") request None refl in
    let no_not = written (codes "not") request None refl in
    record { same = rw (no_or, no_not, again.0) refl; fine = rw (no_or, no_not, again.1, again.2, own) refl }

conditions-again : (depth : ℕ) → AllAgain depth
conditions-again zero member other tree none = absurd cc
conditions-again (suc depth) member other tree none =
    step-again depth (conditions-again depth) member other tree (get (codes "or") tree) (get (codes "not") tree) none

-- ---- sources

named-again : (a b c d has_handler : Bool) (reason : RouterReason) (source : SourceView)
    → cond a (Ok network) (cond b (Ok cache) (cond c (handled has_handler fetch_event) (cond d (handled has_handler race) (Err reason)))) ≡ Ok source → source_of has_handler (source_tree source) ≡ Ok source
named-again true b c d has_handler reason source e = let same : network ≡ source = cc in rw (← same) refl
named-again false true c d has_handler reason source e = let same : cache ≡ source = cc in rw (← same) refl
named-again false false true d true reason source e = let same : fetch_event ≡ source = cc in rw (← same) refl
named-again false false true d false reason source e = absurd cc
named-again false false false true true reason source e = let same : race ≡ source = cc in rw (← same) refl
named-again false false false true false reason source e = absurd cc
named-again false false false false has_handler reason source e = absurd cc

cached-again : (has_handler : Bool) (name : Option (List ℕ)) (source : SourceView) → cache_named name ≡ Ok source → source_of has_handler (source_tree source) ≡ Ok source
cached-again has_handler None source e = absurd cc
cached-again has_handler (Some name) source e = let same : named_cache name ≡ source = cc in rw (← same) refl

cache-again : (has_handler : Bool) (found : Option Data) (source : SourceView) → cache_in found ≡ Ok source → source_of has_handler (source_tree source) ≡ Ok source
cache-again has_handler None source e = absurd cc
cache-again has_handler (Some name) source e = cached-again has_handler (text_read name) source e

source-again : (has_handler : Bool) (tree : Data) (source : SourceView) → source_of has_handler tree ≡ Ok source → source_of has_handler (source_tree source) ≡ Ok source
source-again has_handler (string name) source e = named-again _ _ _ _ has_handler _ source e
source-again has_handler null source e = absurd cc
source-again has_handler (boolean b) source e = absurd cc
source-again has_handler (number n) source e = absurd cc
source-again has_handler (array items) source e = absurd cc
source-again has_handler (object given) source e = cache-again has_handler (get (codes "cacheName") (object given)) source e

-- A rule with this source, and its own tree.
abbrev rule_with : ConditionView → SourceView → Data
rule_with condition source = rule_tree (record { condition = condition; source = source })

source-of_read : (has_handler : Bool) (tree given : Data) (condition : ConditionView) (read : Result SourceView RouterReason) → get (codes "source") tree ≡ Some given → source_of has_handler given ≡ read → source_faults has_handler tree ≡ []
    → source_read has_handler (rule_with condition (source_in has_handler tree)) ≡ Ok (source_in has_handler tree)
source-of_read has_handler tree given condition (Err reason) is reads none = absurd (let wrong = rw (is, reads) at none in cc)
source-of_read has_handler tree given condition (Ok source) is reads none = rw (is, reads) (source-again has_handler given source reads)

source-of_member : (has_handler : Bool) (tree : Data) (condition : ConditionView) (given : Option Data) → get (codes "source") tree ≡ given → source_faults has_handler tree ≡ []
    → source_read has_handler (rule_with condition (source_in has_handler tree)) ≡ Ok (source_in has_handler tree)
source-of_member has_handler tree condition None is none = absurd (let wrong = rw is at none in cc)
source-of_member has_handler tree condition (Some given) is none = source-of_read has_handler tree given condition (source_of has_handler given) is refl none

-- ---- rules

record RuleConditionAgain (depth : ℕ) (tree : Data) : Type 0 where
  same : condition_of depth (condition_tree (condition_of_rule depth tree)) ≡ condition_of_rule depth tree
  fine : condition_faults depth members.Condition (condition_tree (condition_of_rule depth tree)) ≡ []

condition-of_member : (depth : ℕ) (tree : Data) (given : Option Data) → get (codes "condition") tree ≡ given → condition_of_rule_faults depth tree ≡ [] → RuleConditionAgain depth tree
condition-of_member depth tree None is none = absurd (let wrong = rw is at none in cc)
condition-of_member depth tree (Some given) is none =
    let own = rw is at none in
    let again = conditions-again depth members.Condition members.Condition given own in
    record { same = rw is again.same; fine = rw is again.fine }

pub rule-again : (limits : RouterLimits) (tree : Data) → rule_faults limits tree ≡ [] → reading_of limits (rule_tree (rule_of limits tree)) ≡ (rule_of limits tree, [])
rule-again limits tree none =
    let condition = condition-of_member limits.depth tree (get (codes "condition") tree) refl (nil-first (condition_of_rule_faults limits.depth tree) (source_faults limits.has_handler tree) none) in
    let source = source-of_member limits.has_handler tree (condition_of_rule limits.depth tree) (get (codes "source") tree) refl (nil-second (condition_of_rule_faults limits.depth tree) (source_faults limits.has_handler tree) none) in
    rw (condition.same, condition.fine, source) refl

listed-again : (limits : RouterLimits) (trees : List Data) (rules : List RuleView) → map (reading_of limits) trees ≡ map (λ rule. (rule, [])) rules
    → map (reading_of limits) (all_items (items_of (map rule_tree rules))) ≡ map (λ rule. (rule, [])) rules
listed-again limits [] [] are = refl
listed-again limits [] (rule ∷ rules) are = absurd cc
listed-again limits (tree ∷ trees) [] are = absurd cc
listed-again limits (tree ∷ trees) (rule ∷ rules) are =
    let first : reading_of limits tree ≡ (rule, []) = cc in
    let none : rule_faults limits tree ≡ [] = ap (λ reading. reading.1) first in
    let same : rule_of limits tree ≡ rule = ap (λ reading. reading.0) first in
    let others : map (reading_of limits) trees ≡ map (λ rule. (rule, [])) rules = cc in
    let again : reading_of limits (rule_tree rule) ≡ (rule, []) = subst (λ (one : RuleView). reading_of limits (rule_tree one) ≡ (one, [])) same (rule-again limits tree none) in
    rw (again, listed-again limits trees rules others) refl

-- Rules without a fault, written as JSON and read again, are the same rules, and have no fault.
pub rules-again : RulesAreReadBack
rules-again limits tree rules are = listed-again limits (rules_in tree) rules are
