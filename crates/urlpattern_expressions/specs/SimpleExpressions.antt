-- Simple custom expressions: what they match does not depend on the text around them, and they have
-- no groups that capture. Whether an expression is simple is decided at run time.
use Rattle.std.specs.Prelude.{◌≡◌, ◌⊎◌, ℕ, Bool, true, false, not, ◌&&◌, nat_le, All, List, [], ◌∷◌, codes, IfSome, IsAscii, IsTrue, if◌then◌else◌}
use Rattle.std.specs.Char.{is_ascii}
use Rattle.regex_hir.specs.Text.{is_some_and}
use Rattle.regex_syntax.specs.Grammar.{read}
use Rattle.urlpattern_expressions.specs.Expressions.{config_for}
use Rattle.urlpattern_meaning.specs.PartMeaning.{AreGenerated}
use Rattle.urlpattern_syntax.specs.{ComponentParts.kept_options, ComponentParts.kept_parts, Options.OptionsView, Parts.PartView}
use Rattle.urlpattern_syntax.specs.declared.parser.Part.{Part}
use Rattle.urlpattern_syntax.specs.declared.parser.PartType.{PartType}
use Rattle.urlpattern_syntax.specs.declared.parts.ComponentParts.{ComponentParts}
use Rattle.urlpattern_syntax.specs.Text.{is_among, line_feed}

-- ---- expressions

-- Whether the text begins with `?:`, as a group does that captures nothing.
abbrev pub begins_uncaptured : List ℕ → Bool
begins_uncaptured (c ∷ d ∷ rest) = is_among (codes "?") c && is_among (codes ":") d
begins_uncaptured rest = false

-- Whether `c` may stand after a backslash: a letter that stands for a class of characters, or a
-- sign that stands for itself.
abbrev pub is_escapable : ℕ → Bool
is_escapable c = is_among (codes "dDsSwW!\"$%&'()*+,-./:;=?@]^_`{|}~") c

-- Whether `c`, after which `rest` follows, may stand after the character `before`. A caret stands
-- only at the start of a class in brackets, and a parenthesis only opens a group that captures
-- nothing. Neither a dollar sign nor a number sign stands without a backslash.
abbrev pub may_follow : (before c : ℕ) → (rest : List ℕ) → Bool
may_follow before c rest =
    if is_among (codes "\\") before then is_escapable c
    else if is_among (codes "^") c then is_among (codes "[") before
    else if is_among (codes "(") c then begins_uncaptured rest
    else is_ascii c && not (is_among (codes "$#") c)

-- Whether each character of the text may stand after the one before it. `before` is the character
-- before the text.
abbrev pub has_simple_signs : (before : ℕ) → List ℕ → Bool
has_simple_signs before [] = true
has_simple_signs before (c ∷ rest) = may_follow before c rest && has_simple_signs c rest

-- Whether the expression is simple where case is ignored or kept: the grammar of `regex` reads it,
-- nested no deeper than its limit, and it has no assertion, no flag and no group that captures. A
-- line feed before the text stands for no sign.
unfoldable pub is_simple_by : (ignore_case : Bool) → (expression : List ℕ) → Bool
is_simple_by ignore_case expression =
    has_simple_signs (line_feed) expression
    && is_some_and (read (config_for ignore_case) expression) (λ (pattern, names).
    nat_le pattern.depth (config_for ignore_case).nest_limit)

-- Whether the expression is simple where case is kept.
abbrev pub is_simple : (expression : List ℕ) → Bool
is_simple = is_simple_by false

-- ---- parts

-- Whether a part of this kind is a custom regular expression.
abbrev pub is_custom_kind : PartType → Bool
is_custom_kind PartType.Regexp = true
is_custom_kind kind = false

-- Whether the part is a custom regular expression.
abbrev pub is_custom_part : Part → Bool
is_custom_part part = is_custom_kind part.kind

-- The expression of a custom part is simple, where case is ignored or kept. Parts of other kinds
-- meet this.
abbrev pub HasSimpleExpressionBy : (ignore_case : Bool) → PartType → (value : List ℕ) → Type 0
HasSimpleExpressionBy ignore_case PartType.Regexp value = IsTrue (is_simple_by ignore_case value)
HasSimpleExpressionBy ignore_case kind value = Unit {0}

-- The expression of a custom part is simple, where case is kept.
abbrev pub HasSimpleExpression : PartType → (value : List ℕ) → Type 0
HasSimpleExpression = HasSimpleExpressionBy false

-- The expressions of all custom parts are simple, where case is ignored or kept.
abbrev pub AreSimpleBy : (ignore_case : Bool) → List PartView → Type 0
AreSimpleBy ignore_case parts =
    All (λ part. HasSimpleExpressionBy ignore_case part.kind part.value) parts

-- The expressions of all custom parts are simple, where case is kept.
abbrev pub AreSimple : List PartView → Type 0
AreSimple = AreSimpleBy false

-- Parts with these options have a meaning: custom expressions are simple, and case is kept.
pub record HaveMeaning (options : OptionsView) (parts : List PartView) : Type 0 where
  pub simple : AreSimple parts
  pub case_kept : options.ignore_case ≡ false

-- The texts of the part are ASCII.
abbrev pub HasAsciiTexts : PartView → Type 0
HasAsciiTexts part = IsAscii part.value × IsAscii part.prefix × IsAscii part.suffix

-- The delimiter, if there is one, is ASCII.
abbrev pub HasAsciiDelimiter : OptionsView → Type 0
HasAsciiDelimiter options = IfSome options.delimiter (λ c. IsTrue (is_ascii c))

-- The delimiter and all texts of the parts are ASCII.
abbrev pub AreOfAscii : OptionsView → List PartView → Type 0
AreOfAscii options parts = HasAsciiDelimiter options × All HasAsciiTexts parts

-- Parts with these options have a meaning over an engine that honours the flag `i`, such as
-- `PatternRegexp`: custom expressions are simple, as they are read where case is ignored or kept;
-- and if case is ignored and a part is custom, the delimiter and all texts of the parts are ASCII.
pub record HaveMeaningByCase (options : OptionsView) (parts : List PartView) : Type 0 where
  pub simple : AreSimpleBy options.ignore_case parts
  pub by_case : (options.ignore_case ≡ false) ⊎ (AreGenerated parts ⊎ AreOfAscii options parts)

-- The parts of a component have a meaning.
abbrev pub KeepsMeaning : ComponentParts → Type 0
KeepsMeaning kept = HaveMeaning (kept_options kept) (kept_parts kept)

-- The parts of a component have a meaning over an engine that honours the flag `i`.
abbrev pub KeepsMeaningByCase : ComponentParts → Type 0
KeepsMeaningByCase kept = HaveMeaningByCase (kept_options kept) (kept_parts kept)
