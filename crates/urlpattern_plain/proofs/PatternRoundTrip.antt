-- Reading plain patterns undoes writing them.
use Rattle.std.proofs.Common.{◌≡◌, ℕ, Bool, List, [], ◌∷◌, Option, None, Some, refl, ap, codes, option_map, map}
use Rattle.std.specs.Prelude.{IfSome}
use Rattle.std.specs.Char.{IsScalar}
use Rattle.serde_json.specs.Data.{Data, string}
use Rattle.serde_json.specs.Find.{get}
use Rattle.serde_json.specs.View.{items_of}
use Rattle.urlpattern_plain.specs.PatternJson.{capture_read, character_read, component_read, component_tree, filter_tree, inner_read, inner_tree, matcher_read, matcher_tree, only, pattern_read, pattern_tree, texts_of_items, texts_read}
use Rattle.urlpattern_plain.specs.Values.{PlainComponentView, HasScalarFilter, HaveScalarFilters, PlainInnerView, PlainMatcherView, PlainPatternView, literal, regexp, single_capture}
use Rattle.urlpattern_plain.proofs.PatternLemmas.{pattern_from}
use Rattle.urlpattern_inputs.specs.Trees.{found_read, flag_read, member_read, optional_read, text_read}
use Rattle.urlpattern_inputs.proofs.EachLemmas.{read_each-all}
use Rattle.urlpattern_components.specs.Eight.{at, name_text}
use Rattle.urlpattern_components.specs.declared.eight.ComponentName.{ComponentName}
use Rattle.urlpattern_components.specs.declared.eight.ComponentName.TheVariants.{Protocol}
use Rattle.urlpattern_syntax.proofs.StringTexts.{chars-encode}

-- ---- matchers

filter_again : (filter : Option ℕ) → IfSome filter IsScalar → found_read character_read (Some (filter_tree filter)) ≡ Some filter
filter_again None h = refl
filter_again (Some character) h = ap (λ (cs : List ℕ). option_map (λ (c : ℕ). Some c) (only cs)) (chars-encode character h)

capture_from : (tree : Data) (filter : Option ℕ) (allow_empty : Bool) → optional_read character_read (codes "filter") tree ≡ Some filter → flag_read (codes "allowEmpty") tree ≡ Some allow_empty → capture_read tree ≡ Some (single_capture filter allow_empty)
unfolding capture_read
capture_from tree filter allow_empty f a = rw (f, a) refl

pub inner_again : (inner : PlainInnerView) → HasScalarFilter inner → inner_read (inner_tree inner) ≡ Some inner
unfolding inner_read
inner_again (literal bytes) h = refl
inner_again (single_capture filter allow_empty) h =
    capture_from (inner_tree (single_capture filter allow_empty)) filter allow_empty (filter_again filter h) refl
inner_again (regexp bytes) h = refl

inner_within : (prefix suffix : List ℕ) (inner : PlainInnerView) → HasScalarFilter inner → inner_read (matcher_tree (record { prefix = prefix; suffix = suffix; inner = inner })) ≡ Some inner
unfolding inner_read
inner_within prefix suffix (literal bytes) h = refl
inner_within prefix suffix (single_capture filter allow_empty) h =
    capture_from (matcher_tree (record { prefix = prefix; suffix = suffix; inner = single_capture filter allow_empty })) filter allow_empty (filter_again filter h) refl
inner_within prefix suffix (regexp bytes) h = refl

matcher_from : (tree : Data) (matcher : PlainMatcherView) → text_read (codes "prefix") tree ≡ Some matcher.prefix → text_read (codes "suffix") tree ≡ Some matcher.suffix → inner_read tree ≡ Some matcher.inner → matcher_read tree ≡ Some matcher
unfolding matcher_read
matcher_from tree matcher prefix suffix inner = rw (prefix, suffix, inner) refl

prefix_again : (prefix suffix : List ℕ) (inner : PlainInnerView) → text_read (codes "prefix") (matcher_tree (record { prefix = prefix; suffix = suffix; inner = inner })) ≡ Some prefix
prefix_again prefix suffix (literal bytes) = refl
prefix_again prefix suffix (single_capture filter allow_empty) = refl
prefix_again prefix suffix (regexp bytes) = refl

suffix_again : (prefix suffix : List ℕ) (inner : PlainInnerView) → text_read (codes "suffix") (matcher_tree (record { prefix = prefix; suffix = suffix; inner = inner })) ≡ Some suffix
suffix_again prefix suffix (literal bytes) = refl
suffix_again prefix suffix (single_capture filter allow_empty) = refl
suffix_again prefix suffix (regexp bytes) = refl

pub matcher_again : (matcher : PlainMatcherView) → HasScalarFilter matcher.inner → matcher_read (matcher_tree matcher) ≡ Some matcher
matcher_again matcher h =
    matcher_from (matcher_tree matcher) matcher
    (prefix_again matcher.prefix matcher.suffix matcher.inner)
    (suffix_again matcher.prefix matcher.suffix matcher.inner)
    (inner_within matcher.prefix matcher.suffix matcher.inner h)

-- ---- components

texts_again : (texts : List (List ℕ)) → texts_of_items (items_of (map string texts)) ≡ Some texts
texts_again [] = refl
texts_again (text ∷ texts) = rw (texts_again texts) refl

component_from : (tree : Data) (component : PlainComponentView)
    → text_read (codes "patternString") tree ≡ Some component.pattern_string
    → text_read (codes "regexpString") tree ≡ Some component.regexp_string
    → member_read matcher_read (codes "matcher") tree ≡ Some component.matcher
    → member_read texts_read (codes "groupNameList") tree ≡ Some component.group_name_list
    → component_read tree ≡ Some component
unfolding component_read
component_from tree component pattern_string regexp_string matcher group_name_list = rw (pattern_string, regexp_string, matcher, group_name_list) refl

pub component_again : (component : PlainComponentView) → HasScalarFilter component.matcher.inner → component_read (component_tree component) ≡ Some component
component_again component h = component_from (component_tree component) component refl refl (matcher_again component.matcher h) (texts_again component.group_name_list)

-- ---- patterns

-- The component of a pattern is found by its name.
member_again : (pattern : PlainPatternView) (name : ComponentName)
    → get (name_text name) (pattern_tree pattern) ≡ Some (component_tree (at pattern.components name))
member_again pattern Protocol = refl
member_again pattern name = refl

pub pattern_again : (pattern : PlainPatternView) → HaveScalarFilters pattern → pattern_read (pattern_tree pattern) ≡ Some pattern
pattern_again pattern h =
    pattern_from (pattern_tree pattern) pattern
    (read_each-all (λ name. member_read component_read (name_text name) (pattern_tree pattern)) pattern.components (λ name. rw (member_again pattern name) (component_again (at pattern.components name) (h name))))
    refl
