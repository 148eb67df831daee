-- The component that is compiled from a pattern text.
use Rattle.std.specs.Prelude.{◌≡◌, ◌⊎◌, ℕ, Bool, true, false, not, List, map, codes, Option, Some, None, Result, Ok, Err, IsTrue, if◌then◌else◌}
use Rattle.std.specs.{Borrow.Bor, List.list_any}
use Rattle.urlpattern_matcher.specs.declared.component.{Component.Component, ComponentWithParts.ComponentWithParts}
use Rattle.urlpattern_matcher.specs.declared.regexp.RegExp.{Ghosts as Engine}
use Rattle.urlpattern_matcher.specs.Matchers.{engine_view, matcher_view}
use Rattle.urlpattern_meaning.specs.Matching.{ReturnsByMeaning, InnerView, IsMadeOf, MatcherView, RegExp}
use Rattle.urlpattern_meaning.specs.Printing.{printed}
use Rattle.urlpattern_syntax.specs.declared.error.Error.{Error}
use Rattle.urlpattern_syntax.specs.Errors.{ErrorView, MemoryOr}
use Rattle.urlpattern_syntax.specs.declared.parser.{RegexSyntax.RegexSyntax, PartType.PartType}
use Rattle.urlpattern_syntax.specs.{ComponentParts.kept_options, ComponentParts.kept_parts, Options.OptionsView, Parts.PartView}
use Rattle.urlpattern_syntax.specs.Reading.{Encoding, Reads, Rejects}
use Rattle.urlpattern_syntax.specs.RegexpText.{group_names, regexp_text}
use Rattle.urlpattern_syntax.specs.Text.{chars, lacks, text_of}

-- The view of a `Component`: its five fields, with texts as lists of characters.
pub record ComponentView (E : Type 0) : Type 0 where
  pub pattern_string : List ℕ
  pub regexp : Result E ErrorView
  pub group_name_list : List (List ℕ)
  pub matcher : MatcherView E
  pub has_regexp_group : Bool

-- The view of `component`.
abbrev pub component_view : {E : Type 0} → Component E → ComponentView E
component_view component = record {
  pattern_string = text_of component.pattern_string;
  regexp = engine_view component.regexp;
  group_name_list = map (λ name. text_of name) component.group_name_list.items;
  matcher = matcher_view component.matcher;
  has_regexp_group = component.has_regexp_group;
}

-- The pattern text of a component: the given pattern, or an asterisk if there is none.
abbrev pub pattern_text : Option (Bor (List ℕ)) → List ℕ
pattern_text None = codes "*"
pattern_text (Some pattern) = chars pattern.now

-- The flags for the engine: `u`, and `i` if case is ignored.
abbrev pub engine_flags : OptionsView → List ℕ
engine_flags options = if options.ignore_case then codes "ui" else codes "u"

-- Whether the flags have an `i`, so that case is ignored.
abbrev pub ignores_case : (flags : List ℕ) → Bool
ignores_case flags = not (lacks 0x69 flags)

-- The flags ignore case if and only if the options do.
abbrev pub FlagsAgree : OptionsView → (flags : List ℕ) → Type 0
FlagsAgree options flags = ignores_case flags ≡ options.ignore_case

-- Whether a part of this kind is a custom regular expression.
abbrev pub is_custom : PartType → Bool
is_custom PartType.Regexp = true
is_custom kind = false

-- Whether at least one of the parts is a custom regular expression.
abbrev pub has_regexp : List PartView → Bool
has_regexp parts = list_any (λ part. is_custom part.kind) parts

-- Whether an engine of this syntax, once it accepted the regular expression of a component, is
-- called again with `force_eval`; `has_regexp_group` says that the component has a custom
-- expression.
abbrev pub is_called_again : RegexSyntax → (has_regexp_group : Bool) → Bool
is_called_again RegexSyntax.EcmaScript has_regexp_group = has_regexp_group
is_called_again RegexSyntax.Rust has_regexp_group = false

-- The result is one that `engine` may return for `regexp`, `flags` and `force_eval`: a value that
-- is made of them, or the error `RegExp`, if the engine may reject the expression.
abbrev pub IsEngineOf : {E : Type 0} → Engine E → (force_eval : Bool) → (flags regexp : List ℕ)
    → Result E ErrorView → Type 0
IsEngineOf engine force_eval flags regexp (Ok value) = engine.IsMade value regexp flags
IsEngineOf engine force_eval flags regexp (Err error) =
    (error ≡ ErrorView.RegExp) × engine.MayReject regexp flags force_eval

-- `made` is what `engine` returns for `regexp`, the regular expression of a whole component: in the
-- call without `force_eval` or, if the engine is called again, in the call with it.
abbrev pub IsWholeEngineOf : {E : Type 0} → Engine E
    → (has_regexp_group : Bool) → (flags regexp : List ℕ) → Result E ErrorView → Type 0
IsWholeEngineOf engine has_regexp_group flags regexp made =
    IsEngineOf engine false flags regexp made
    ⊎ (IsTrue (is_called_again engine.syntax_of has_regexp_group)
    × IsEngineOf engine true flags regexp made)

-- The five fields of `component` are made of `parts`, under `options`, and by `engine`.
pub record IsComponentOf {E : Type 0} (engine : Engine E) (options : OptionsView)
    (parts : List PartView) (component : ComponentView E) : Type 0 where
  pub is_printed : component.pattern_string ≡ printed options parts
  pub has_engine : IsWholeEngineOf engine (has_regexp parts) (engine_flags options)
      (regexp_text options parts) component.regexp
  pub has_names : component.group_name_list ≡ group_names parts
  pub has_matcher : IsMadeOf (IsEngineOf engine false (engine_flags options)) options parts
      component.matcher
  pub regexp_flag : component.has_regexp_group ≡ has_regexp parts

-- Whether a matcher with this between its prefix and suffix ignores case where it is to: it needs
-- no engine, or the engine honours the flag `i`.
abbrev pub honours_case : {E : Type 0} → Engine E → InnerView E → Bool
honours_case engine (RegExp regexp) = engine.case_honoured
honours_case engine inner = true

-- `component` is compiled from `text`: its fields are made of parts that `text` is parsed to.
abbrev pub IsCompiledFrom : {E : Type 0} → Engine E → (text : List ℕ) → OptionsView → Encoding
    → ComponentView E → Type 0
IsCompiledFrom engine text options encoding component =
    (parts : List PartView) × Reads text options encoding parts
    × IsComponentOf engine options parts component

-- `made` is compiled from `text`: it keeps `options` and the parts that `text` is parsed to, the
-- five fields of its component are made of these, and it says whether its matcher honours case.
pub record IsCompiledKeeping {E : Type 0} (engine : Engine E) (text : List ℕ)
    (options : OptionsView) (encoding : Encoding) (made : ComponentWithParts E) : Type 0 where
  pub options_are : kept_options made.kept ≡ options
  pub reads : Reads text options encoding (kept_parts made.kept)
  pub is_made : IsComponentOf engine options (kept_parts made.kept) (component_view made.component)
  pub case : made.kept.honours_case
      ≡ honours_case engine (component_view made.component).matcher.inner

-- `error` is one with which `text` is rejected, or says that memory ran out.
abbrev pub FailsToRead : (text : List ℕ) → OptionsView → Encoding → Error → Type 0
FailsToRead text options encoding error = MemoryOr (Rejects text options encoding) error

-- If `component` is made of some parts by `engine`, its matcher returns what these parts mean, as
-- `ReturnsByMeaning` says.
abbrev pub ReturnsByItsParts : {E : Type 0} → Engine E → OptionsView → ComponentView E → Type 0
ReturnsByItsParts engine options component =
    (parts : List PartView) → IsComponentOf engine options parts component
    → ReturnsByMeaning engine.answer options parts component.matcher
