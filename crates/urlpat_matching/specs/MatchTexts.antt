-- The output for the match of an input. Texts are bytes.
use Rattle.std.specs.Prelude.{◌⊎◌, ℕ, All, Bool, true, false, List, Option, String, string_bytes, MatchOption}
use Rattle.std.specs.declared.alloc.Global.{Global}
use Rattle.url.specs.Parts.{Parts}
use Rattle.urlpat_matching.specs.GroupLines.{AreLines, all_named_results}
use Rattle.urlpattern_canonical.specs.BaseUrls.{BaseView, IsRejectedText, IsUrlOf, IsUrlUnder, base_view}
use Rattle.urlpat_matching.specs.MatchJson.{IsMatchJson}
use Rattle.urlpat_matching.specs.GivenPatterns.{IsPatternGiven}
use Rattle.urlpat_matching.specs.declared.command.Flags.{Flags}
use Rattle.urlpat_matching.specs.declared.given_pattern.GivenPattern.{GivenPattern}
use Rattle.urlpattern_components.specs.declared.eight.ComponentName.{ComponentName}
use Rattle.urlpattern_engine.specs.PatternRegexps.{pattern_result}
use Rattle.urlpattern_engine.specs.declared.pattern_regexp.PatternRegexp.{PatternRegexp}
use Rattle.urlpattern_init.specs.declared.init.UrlPatternMatchInput.TheVariants as match_inputs
use Rattle.urlpattern_matches.specs.ResultViews.{ResultView}
use Rattle.urlpattern_pattern.specs.Match.{HasNoMatch, IsMatch}
use Rattle.urlpattern_pattern.specs.Patterns.{PatternView}

-- `text` is what is printed of a match: JSON, or a line for each group.
abbrev pub ShowsMatch : (json : Bool) → (ComponentName → ResultView) → (text : List ℕ) → Type 0
ShowsMatch true result text = IsMatchJson result text
ShowsMatch false result text = AreLines (all_named_results result) text

-- The pattern matches the input, a URL under the base URL `base`, and `text` is what is printed of
-- the match.
pub record IsMatchTextBy (json : Bool) (compiled : PatternView PatternRegexp) (input : List ℕ)
    (base : Option (List ℕ)) (text : List ℕ) : Type 0 where
  pub url : Parts
  pub result : ComponentName → ResultView
  pub is_url : IsUrlOf input base url
  pub is_match : IsMatch pattern_result compiled (match_inputs.Url url) result
  pub shows : ShowsMatch json result text

-- The pattern that is given matches the input, and `text` is what is printed of the match.
abbrev pub IsMatchText : Flags → GivenPattern → (input : List ℕ) → (base : Option (List ℕ))
    → (text : List ℕ) → Type 0
IsMatchText flags pattern input base text =
    (compiled : PatternView PatternRegexp) × IsPatternGiven flags.ignore_case pattern base compiled
    × IsMatchTextBy flags.json compiled input base text

-- The input is a URL under the base URL, and the pattern has no match on it.
abbrev pub HasNoMatchUnder : (compiled : PatternView PatternRegexp) → (input : List ℕ) → BaseView
    → Type 0
HasNoMatchUnder compiled input base =
    (url : Parts) × IsUrlUnder input base url
    × HasNoMatch pattern_result compiled (match_inputs.Url url)

-- The pattern does not match the input: the input is not a URL under the base URL, or may be too
-- long for `url`, or the pattern has no match on the URL.
abbrev pub IsUnmatchedBy : (compiled : PatternView PatternRegexp) → (input : List ℕ)
    → (base : Option (List ℕ)) → Type 0
IsUnmatchedBy compiled input base =
    IsRejectedText input base ⊎ HasNoMatchUnder compiled input (base_view base)

-- The pattern that is given does not match the input.
abbrev pub IsUnmatched : (ignores : Bool) → GivenPattern → (input : List ℕ)
    → (base : Option (List ℕ)) → Type 0
IsUnmatched ignores pattern input base =
    (compiled : PatternView PatternRegexp) × IsPatternGiven ignores pattern base compiled
    × IsUnmatchedBy compiled input base

-- The input is a URL under the base URL, and no pattern of the list has a match on it.
abbrev pub HaveNoMatchUnder : (compiled : List (PatternView PatternRegexp)) → (input : List ℕ)
    → BaseView → Type 0
HaveNoMatchUnder compiled input base =
    (url : Parts) × IsUrlUnder input base url
    × All (λ pattern. HasNoMatch pattern_result pattern (match_inputs.Url url)) compiled

-- `found` is what is printed of the match of the input by the pattern that is given. `None`: the
-- input does not match.
abbrev pub FindsMatch : Flags → GivenPattern → (input : List ℕ) → (base : Option (List ℕ))
    → Option (String Global) → Type 0
FindsMatch flags pattern input base found =
    MatchOption found (IsUnmatched flags.ignore_case pattern input base) (λ text.
    IsMatchText flags pattern input base (string_bytes text))

-- `found` is what is printed of the match of the input by a compiled pattern. `None`: the input
-- does not match.
abbrev pub FindsMatchBy : (json : Bool) → PatternView PatternRegexp
    → (input : List ℕ) → (base : Option (List ℕ)) → Option (String Global) → Type 0
FindsMatchBy json compiled input base found =
    MatchOption found (IsUnmatchedBy compiled input base) (λ text.
    IsMatchTextBy json compiled input base (string_bytes text))
