-- Matchers made by `EcmaRegexp` return the first way of their parts, where they hold a value of
-- `regex`.
use Rattle.std.proofs.Common.{◌≡◌, ℕ, List, Option, Some, None}
use Rattle.std.specs.Prelude.{IfSome, IsTrue, is_some, option_and_then}
use Rattle.std.specs.Str.{all_scalars}
use Rattle.regex.specs.declared.string.regex.Regex.{Regex}
use Rattle.urlpattern_engine.specs.EcmaRegexps.{KeepsRegex, ecma_engine}
use Rattle.urlpattern_matcher.specs.Regexes.{IsRegexOf, regex_result}
use Rattle.urlpattern_matcher.specs.FirstWays.{EachReturnsFirst}
use Rattle.urlpattern_meaning.specs.Dialect.{IsTreeOf, Items}
use Rattle.urlpattern_meaning.specs.FirstResults.{AcceptedText}
use Rattle.urlpattern_meaning.specs.Ways.{first_way}
use Rattle.urlpattern_syntax.proofs.TokenExamples.{no}
use Rattle.urlpattern_matcher.proofs.FirstMatchers.{made_first}
use Rattle.urlpattern_engine.proofs.RegexWays.{regex_answers_first}

-- The value held returns the first way.
kept_first : (regexp : List ℕ) (kept : Option Regex) → IfSome kept (IsRegexOf regexp) → IsTrue (is_some kept) → (tree : Items) (text : List ℕ) → IsTreeOf regexp tree → IsTrue (all_scalars text)
    → option_and_then (λ regex. regex_result regex text) kept ≡ first_way tree text
kept_first regexp None read some tree text is scalars = absurd (no some)
kept_first regexp (Some regex) read some tree text is scalars = regex_answers_first regexp tree regex text is read scalars

pub kept_by_ecma_first : EachReturnsFirst ecma_engine (λ options flags. AcceptedText KeepsRegex)
kept_by_ecma_first = made_first ecma_engine _ KeepsRegex (λ options flags parts matcher kept. kept.took)
    (λ options regexp flags ecma inner case taken made some tree text is scalars. kept_first regexp ecma.2 made.has_read some tree text is scalars)
