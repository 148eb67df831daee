-- What a value of the engine `PatternRegexp` is made of, and what it returns.
use Rattle.std.specs.Prelude.{◌≡◌, ℕ, ◌^◌, ◌≤◌, Bool, true, List, length, Option, IsSome, string_bytes}
use Rattle.regex_syntax.specs.Grammar.{read}
use Rattle.urlpattern_matcher.specs.declared.regexp.RegExp.{Ghosts as Engine}
use Rattle.urlpattern_matcher.specs.Components.{ignores_case}
use Rattle.urlpattern_matcher.specs.Regexes.{regex_result, regex_text}
use Rattle.urlpattern_engine.specs.Automatons.{IsNfaOf, IsRegexReadAs, automaton_result, read_result}
use Rattle.urlpattern_expressions.specs.Expressions.{config_for}
use Rattle.urlpattern_engine.specs.ExpressionFaults.{HasFault}
use Rattle.urlpattern_engine.specs.declared.strategy.Strategy.{Strategy}
use Rattle.urlpattern_engine.specs.declared.strategy.Strategy.TheVariants.{Steps, LazySteps, Automaton, Regex, LazyRegex}
use Rattle.urlpattern_engine.specs.declared.pattern_regexp.PatternRegexp.{PatternRegexp}
use Rattle.urlpattern_meaning.specs.GeneratedTexts.{IsGenerated}
use Rattle.urlpattern_steps.specs.ReadSteps.{AreStepsOf}
use Rattle.urlpattern_steps.specs.Walk.{walk}
use Rattle.urlpattern_meaning.specs.PartMeaning.{Captures}
use Rattle.urlpattern_meaning.specs.Ways.{first_way_by}
use Rattle.urlpattern_syntax.specs.declared.parser.RegexSyntax.TheVariants.{Rust}
use Rattle.urlpattern_syntax.specs.Text.{text_of}

-- The text of the expression that a strategy matches.
abbrev pub expression_text : Strategy → List ℕ
expression_text (Steps own) = text_of own.text
expression_text (LazySteps generated) = generated.text.characters
expression_text (Automaton automaton) = text_of automaton.text
expression_text (Regex regex) = regex_text regex
expression_text (LazyRegex own) = own.characters

-- The captures of an expression in a text, by its strategy. None: no match.
abbrev pub expression_result : (ignore_case : Bool) → Strategy → List ℕ → Option Captures
expression_result ignore_case (Steps own) text = walk ignore_case own.steps.items text
expression_result ignore_case (LazySteps generated) text =
    first_way_by ignore_case generated.tree.0 text
expression_result ignore_case (Automaton automaton) text = automaton_result automaton.nfa text
expression_result ignore_case (Regex regex) text = regex_result regex text
expression_result ignore_case (LazyRegex own) text =
    read_result ignore_case own.characters text

-- The strategy holds the expression `regexp`: its steps; or its text alone, if it is generated from
-- parts without custom ones; or otherwise an automaton, a `Regex`, or the text alone, in which the
-- grammar reads a pattern.
abbrev pub IsExpressionOf : (ignore_case : Bool) → (regexp : List ℕ) → Strategy → Type 0
IsExpressionOf ignore_case regexp (Steps own) =
    (text_of own.text ≡ regexp) × AreStepsOf regexp own.steps.items
IsExpressionOf ignore_case regexp (LazySteps generated) = generated.text.characters ≡ regexp
IsExpressionOf ignore_case regexp (Automaton automaton) =
    (text_of automaton.text ≡ regexp)
    × IsNfaOf ignore_case (string_bytes automaton.text) automaton.nfa
    × ¬ IsGenerated regexp
IsExpressionOf ignore_case regexp (Regex regex) =
    IsRegexReadAs ignore_case regexp regex × ¬ IsGenerated regexp
IsExpressionOf ignore_case regexp (LazyRegex own) =
    (own.characters ≡ regexp) × IsSome (read (config_for ignore_case) regexp) × ¬ IsGenerated regexp

-- The text of the expression that a value was made of.
abbrev pub pattern_regexp_text : PatternRegexp → List ℕ
pattern_regexp_text value = expression_text value.strategy

-- The captures of a value's expression in a text. None: no match.
unfoldable pub pattern_result : PatternRegexp → List ℕ → Option Captures
pattern_result value text = expression_result value.ignore_case value.strategy text

-- The expression is so short that the grammar of `regex` has a number for each of its groups.
abbrev pub HasNumbers : (regexp : List ℕ) → Type 0
HasNumbers regexp = length regexp ≤ 2 ^ 32

-- The value was made of the expression `regexp` and the flags. None is made of an expression of
-- more than 2 ^ 32 characters.
pub record IsPatternRegexpOf (regexp flags : List ℕ) (value : PatternRegexp) : Type 0 where
  pub by_flags : value.ignore_case ≡ ignores_case flags
  pub of_text : IsExpressionOf value.ignore_case regexp value.strategy
  pub has_numbers : HasNumbers regexp

-- The ghosts of the trait `RegExp` for `PatternRegexp`: the engine ignores case if the flags have
-- an `i`, and rejects no generated expression, and others only for a fault.
abbrev pub pattern_engine : Engine PatternRegexp
pattern_engine = record {
  syntax_of = Rust;
  IsMade = λ value regexp flags. IsPatternRegexpOf regexp flags value;
  MayReject =
      λ regexp flags force_eval. (¬ IsGenerated regexp) × HasFault (ignores_case flags) regexp;
  answer = pattern_result;
  text_made_of = pattern_regexp_text;
  case_honoured = true;
}
