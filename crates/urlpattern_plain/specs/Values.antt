-- The views of plain data. Texts are their bytes in UTF-8, as in JSON, or what `seen`, a view of
-- texts, returns for them.
use Rattle.std.specs.Prelude.{ℕ, Bool, List, Option, map, IfSome, ⊤, String, string_bytes}
use Rattle.std.specs.Char.{IsScalar}
use Rattle.std.specs.declared.alloc.Global.{Global}
use Rattle.urlpattern_plain.specs.declared.{matcher.InnerMatcher.InnerMatcher, matcher.Matcher.Matcher, pattern.UrlPattern.UrlPattern, pattern.UrlPatternComponent.UrlPatternComponent}
use Rattle.urlpattern_components.specs.declared.eight.ComponentName.{ComponentName}
use Rattle.urlpattern_components.specs.declared.eight.Eight.{Eight}
use Rattle.urlpattern_components.specs.Eight.{at, each}

-- ---- patterns

-- The view of a plain inner matcher.
pub data PlainInnerView : Type 0 where
  literal : List ℕ → PlainInnerView
  single_capture : (filter : Option ℕ) → (allow_empty : Bool) → PlainInnerView
  regexp : List ℕ → PlainInnerView

-- The view of an inner matcher, with `seen` as the view of each text.
abbrev pub inner_by : (String Global → List ℕ) → InnerMatcher → PlainInnerView
inner_by seen (InnerMatcher.Literal string) = literal (seen string)
inner_by seen (InnerMatcher.SingleCapture filter allow_empty) = single_capture filter allow_empty
inner_by seen (InnerMatcher.RegExp string) = regexp (seen string)

-- The view of an inner matcher, with the bytes of texts.
abbrev pub plain_inner_view : InnerMatcher → PlainInnerView
plain_inner_view inner = inner_by string_bytes inner

-- The view of a plain matcher.
pub record PlainMatcherView : Type 0 where
  pub prefix : List ℕ
  pub suffix : List ℕ
  pub inner : PlainInnerView

-- The view of a matcher, with `seen` as the view of each text.
abbrev pub matcher_by : (String Global → List ℕ) → Matcher → PlainMatcherView
matcher_by seen matcher = record {
  prefix = seen matcher.prefix;
  suffix = seen matcher.suffix;
  inner = inner_by seen matcher.inner;
}

-- The view of a matcher, with the bytes of texts.
abbrev pub plain_matcher_view : Matcher → PlainMatcherView
plain_matcher_view matcher = matcher_by string_bytes matcher

-- The view of a plain component.
pub record PlainComponentView : Type 0 where
  pub pattern_string : List ℕ
  pub regexp_string : List ℕ
  pub matcher : PlainMatcherView
  pub group_name_list : List (List ℕ)

-- The view of a component, with `seen` as the view of each text.
abbrev pub component_by : (String Global → List ℕ) → UrlPatternComponent → PlainComponentView
component_by seen component = record {
  pattern_string = seen component.pattern_string;
  regexp_string = seen component.regexp_string;
  matcher = matcher_by seen component.matcher;
  group_name_list = map seen component.group_name_list.items;
}

-- The view of a component, with the bytes of texts.
abbrev pub plain_component_view : UrlPatternComponent → PlainComponentView
plain_component_view component = component_by string_bytes component

-- The components of a plain pattern, by their names.
abbrev pub component_patterns : UrlPattern → Eight UrlPatternComponent
component_patterns pattern = record {
  protocol = pattern.protocol;
  username = pattern.username;
  password = pattern.password;
  hostname = pattern.hostname;
  port = pattern.port;
  pathname = pattern.pathname;
  search = pattern.search;
  hash = pattern.hash;
}

-- The view of a plain pattern: its components, and whether any has a custom regular expression.
pub record PlainPatternView : Type 0 where
  pub components : Eight PlainComponentView
  pub has_regexp_groups : Bool

-- The view of a pattern, with `seen` as the view of each text.
abbrev pub pattern_by : (String Global → List ℕ) → UrlPattern → PlainPatternView
pattern_by seen pattern = record {
  components = each (λ name. component_by seen (at (component_patterns pattern) name));
  has_regexp_groups = pattern.has_regexp_groups;
}

-- The view of a pattern, with the bytes of texts.
abbrev pub plain_pattern_view : UrlPattern → PlainPatternView
plain_pattern_view pattern = pattern_by string_bytes pattern

-- ---- numbers that are characters

-- The filter of the inner matcher, the character that the captured text may not contain, is a
-- Unicode scalar value, if there is a filter.
abbrev pub HasScalarFilter : PlainInnerView → Type 0
HasScalarFilter (literal bytes) = ⊤
HasScalarFilter (single_capture filter allow_empty) = IfSome filter IsScalar
HasScalarFilter (regexp bytes) = ⊤

-- The filter of each component, if there is one, is a Unicode scalar value.
abbrev pub HaveScalarFilters : PlainPatternView → Type 0
HaveScalarFilters pattern =
    (name : ComponentName) → HasScalarFilter (at pattern.components name).matcher.inner
