-- What a match means in terms of pattern texts. Parts *mean* a text, with captures, if they can
-- match it one after the other.
use Rattle.std.specs.Prelude.{◌≡◌, ⊤, ℕ, false, List, Option, Some, None, MatchOption, IsTrue}
use Rattle.std.specs.Str.{all_scalars}
use Rattle.urlpattern_init.specs.declared.init.{UrlPatternMatchInput.UrlPatternMatchInput}
use Rattle.urlpattern_components.specs.declared.eight.ComponentName.{ComponentName}
use Rattle.regex.specs.declared.string.regex.Regex.{Regex}
use Rattle.urlpattern_matcher.specs.Components.{ComponentView}
use Rattle.urlpattern_meaning.specs.{FirstResults.AcceptedText, Matching.FollowsMiddle, PartMeaning.Captures, PartMeaning.PartsMean}
use Rattle.urlpattern_compile.specs.Compiled.{ParseSettings}
pub use Rattle.urlpattern_compile.specs.Compiled.{ReadsAs}
use Rattle.urlpattern_pattern.specs.Match.{HasNoMatch, IsMatch}
use Rattle.urlpattern_matches.specs.ResultViews.{IsResultOf, ResultView}
use Rattle.urlpattern_pattern.specs.{Patterns.PatternView}
use Rattle.urlpattern_syntax.specs.{Parts.PartView, RegexpText.group_names, Text.lacks, Text.line_feed}
use Rattle.urlpattern_components.specs.Eight.{Texts, at}

-- ---- what a pattern text means

-- The pattern text of `settings` means `text`: the parts that it is parsed to mean `text`, with
-- `captures`.
pub record IsMeant (settings : ParseSettings) (text : List ℕ) : Type 0 where
  pub parts : List PartView
  pub captures : Captures
  pub reads : ReadsAs settings parts
  pub means : PartsMean settings.options parts text captures

-- ---- premises, and what is found

-- The premises on which what `compiled` returns for `text` is what its pattern text means: no
-- custom regular expression, case that is kept, characters without line feed, and an engine, where
-- one is needed, that accepted its regular expression and follows it.
pub record MeaningPremises {E : Type 0} (answer : E → List ℕ → Option Captures)
    (settings : ParseSettings) (compiled : ComponentView E) (text : List ℕ) : Type 0 where
  pub generated : compiled.has_regexp_group ≡ false
  pub case_kept : settings.options.ignore_case ≡ false
  pub no_line_feed : IsTrue (lacks line_feed text)
  pub characters : IsTrue (all_scalars text)
  pub follows : (parts : List PartView) → ReadsAs settings parts
      → FollowsMiddle answer settings.options parts compiled.matcher.inner

-- The result of matching `texts` is what the pattern texts of `settings` mean. In a match, the
-- pattern text of each component that meets the premises means its text, and the result has the
-- names of the parts, with the captures. Without a match, if all components meet the premises, the
-- pattern texts do not mean all eight texts.
abbrev pub IsFoundByMeaning : {E : Type 0} → (answer : E → List ℕ → Option Captures)
    → (settings : ComponentName → ParseSettings) → PatternView E → Texts
    → Option (ComponentName → ResultView) → Type 0
IsFoundByMeaning answer settings pattern texts (Some result) =
    (component : ComponentName)
    → MeaningPremises answer (settings component) (pattern component) (at texts component)
    →
    (meant : IsMeant (settings component) (at texts component))
    × IsResultOf (group_names meant.parts) meant.captures (at texts component) (result component)
IsFoundByMeaning answer settings pattern texts None =
    ((component : ComponentName)
    → MeaningPremises answer (settings component) (pattern component) (at texts component))
    →
    ¬ ((component : ComponentName) → IsMeant (settings component) (at texts component))

-- ---- the result of `exec`

-- `found` is what `exec` returns: a match of the input, or None if the pattern does not match the
-- input.
abbrev pub IsExecuted : {E : Type 0} → (answer : E → List ℕ → Option Captures) → PatternView E
    → UrlPatternMatchInput → Option (ComponentName → ResultView) → Type 0
IsExecuted answer pattern input found =
    MatchOption found (HasNoMatch answer pattern input) (IsMatch answer pattern input)

-- ---- the default engine

-- The premises on which a component that was compiled with `regex::Regex` returns for `text` what
-- its pattern text means: those of `MeaningPremises`, but of the engine only that it accepted its
-- regular expression, where one is needed.
pub record RegexPremises (settings : ParseSettings) (compiled : ComponentView Regex) (text : List ℕ)
    : Type 0 where
  pub generated : compiled.has_regexp_group ≡ false
  pub case_kept : settings.options.ignore_case ≡ false
  pub took : AcceptedText (λ regex. ⊤) compiled.matcher.inner
  pub no_line_feed : IsTrue (lacks line_feed text)
  pub characters : IsTrue (all_scalars text)
