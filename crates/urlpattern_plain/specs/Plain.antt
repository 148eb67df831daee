-- Compiled components as plain data: each engine is replaced by the text that it was made of, which
-- `text_made_of` returns.
use Rattle.std.specs.Prelude.{ℕ, List, [], Result, Ok, Err}
use Rattle.urlpattern_matcher.specs.Components as compiled
use Rattle.urlpattern_meaning.specs.Matching as matching
use Rattle.urlpattern_plain.specs.Values.{PlainComponentView, PlainInnerView, PlainMatcherView, literal, regexp, single_capture}
use Rattle.urlpattern_syntax.specs.Errors.{ErrorView}

-- The text that an engine was made of, or the empty text in place of an error.
abbrev pub engine_text : {E : Type 0} → (text_made_of : E → List ℕ) → Result E ErrorView → List ℕ
engine_text text_made_of (Ok engine) = text_made_of engine
engine_text text_made_of (Err error) = []

-- An inner matcher as plain data.
abbrev pub plain_inner : {E : Type 0} → (text_made_of : E → List ℕ) → matching.InnerView E
    → PlainInnerView
plain_inner text_made_of (matching.Literal text) = literal text
plain_inner text_made_of (matching.SingleCapture filter may_be_empty) =
    single_capture filter may_be_empty
plain_inner text_made_of (matching.RegExp engine) = regexp (engine_text text_made_of engine)

-- A matcher as plain data.
abbrev pub plain_matcher : {E : Type 0} → (text_made_of : E → List ℕ) → matching.MatcherView E
    → PlainMatcherView
plain_matcher text_made_of matcher = record {
  prefix = matcher.prefix;
  suffix = matcher.suffix;
  inner = plain_inner text_made_of matcher.inner;
}

-- A component as plain data.
abbrev pub plain_component : {E : Type 0} → (text_made_of : E → List ℕ) → compiled.ComponentView E
    → PlainComponentView
plain_component text_made_of component = record {
  pattern_string = component.pattern_string;
  regexp_string = engine_text text_made_of component.regexp;
  matcher = plain_matcher text_made_of component.matcher;
  group_name_list = component.group_name_list;
}
