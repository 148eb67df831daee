-- What an `EcmaRegexp` is made of, and what it returns.
use Rattle.std.specs.Prelude.{◌≡◌, ℕ, false, List, Option, IfSome, IsTrue, is_some, option_and_then}
use Rattle.urlpattern_engine.specs.declared.ecma_regexp.EcmaRegexp.{EcmaRegexp}
use Rattle.urlpattern_matcher.specs.declared.regexp.RegExp.{Ghosts as Engine}
use Rattle.urlpattern_matcher.specs.Regexes.{IsRegexOf, regex_result}
use Rattle.urlpattern_meaning.specs.PartMeaning.{Captures}
use Rattle.urlpattern_syntax.specs.declared.parser.RegexSyntax.TheVariants.{EcmaScript}
use Rattle.urlpattern_syntax.specs.Text.{text_of}

-- The text of the regular expression that the value holds.
abbrev pub ecma_regexp_text : EcmaRegexp → List ℕ
ecma_regexp_text ecma = text_of ecma.0

-- The value holds the expression `regexp` and the flags. A `Regex`, if the value keeps one, was
-- built from `regexp`.
pub record IsEcmaRegexpOf (regexp flags : List ℕ) (ecma : EcmaRegexp) : Type 0 where
  pub has_text : text_of ecma.0 ≡ regexp
  pub has_flags : text_of ecma.1 ≡ flags
  pub has_read : IfSome ecma.2 (IsRegexOf regexp)

-- The result of the kept `Regex` for the text. None: no match, or no `Regex` is kept.
abbrev pub ecma_regexp_result : EcmaRegexp → List ℕ → Option Captures
ecma_regexp_result ecma text = option_and_then (λ regex. regex_result regex text) ecma.2

-- The ghosts of the trait `RegExp` for `EcmaRegexp`: the engine may reject a text only with
-- `force_eval`.
abbrev pub ecma_engine : Engine EcmaRegexp
ecma_engine = record {
  syntax_of = EcmaScript;
  IsMade = λ ecma regexp flags. IsEcmaRegexpOf regexp flags ecma;
  MayReject = λ regexp flags force_eval. IsTrue force_eval;
  answer = ecma_regexp_result;
  text_made_of = ecma_regexp_text;
  case_honoured = false;
}

-- The value keeps a `Regex`, since `regex` accepted the text.
abbrev pub KeepsRegex : EcmaRegexp → Type 0
KeepsRegex ecma = IsTrue (is_some ecma.2)
