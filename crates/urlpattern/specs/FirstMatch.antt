-- The first match of a list of patterns. Eight texts are the texts of an input's eight components.
-- `answer` is what an engine returns for a text.
use Rattle.std.specs.Prelude.{◌≡◌, ◌⊎◌, ℕ, List, map, take, All, Option, Some, None, IfSome, option_map, slice_get}
use Rattle.urlpattern_init.specs.declared.init.UrlPatternMatchInput.{UrlPatternMatchInput}
use Rattle.urlpattern_components.specs.declared.eight.ComponentName.{ComponentName}
use Rattle.urlpattern_pattern.specs.UrlPatterns.{UrlPattern}
use Rattle.urlpattern_matches.specs.declared.captures.UrlPatternCaptures.{UrlPatternCaptures}
use Rattle.urlpattern_matches.specs.declared.result.UrlPatternResult.{UrlPatternResult}
use Rattle.urlpattern_matches.specs.BorrowedMatches.{groups_view, pattern_captures_view}
use Rattle.urlpattern_pattern.specs.Patterns.{PatternView, pattern_view}
use Rattle.urlpattern_pattern.specs.Match.{AreGroupsInOrder, AreMatched, CallsAnEngine, HasMatch, HasNoMatch, IsMatch, IsMatchOf, DoesNotMatch}
use Rattle.urlpattern_matches.specs.ResultViews.{ResultView, result_view}
use Rattle.urlpattern_meaning.specs.PartMeaning.{Captures}
use Rattle.urlpattern_components.specs.Eight.{Texts}

-- The compiled components of each pattern, in order.
abbrev pub patterns_view : {E : Type 0} → List (UrlPattern E) → List (PatternView E)
patterns_view patterns = map (λ pattern. pattern_view pattern) patterns

-- A match by a pattern of a list: the index of the pattern, and the result of each component.
abbrev pub FirstView : Type 0
FirstView = ℕ × (ComponentName → ResultView)

-- The view of a match that is copied: the index of its pattern, and the result of each component.
abbrev pub first_view : Option (ℕ × UrlPatternResult) → Option FirstView
first_view found = option_map (λ first. (first.0, result_view first.1)) found

-- The view of a match that is borrowed: the index of its pattern, and the result of each component.
abbrev pub first_captures_view : Option (ℕ × UrlPatternCaptures) → Option FirstView
first_captures_view found = option_map (λ first. (first.0, pattern_captures_view first.1)) found

-- The option is the first match of the list on the input: the least index whose pattern matches the
-- input, and the results of that pattern's components. `None`: no pattern matches.
abbrev pub IsFirstMatch : {E : Type 0} → (answer : E → List ℕ → Option Captures)
    → List (PatternView E) → UrlPatternMatchInput → Option FirstView → Type 0
IsFirstMatch {E} answer patterns input (Some first) =
    ((pattern : PatternView E) × (slice_get patterns first.0 ≡ Some pattern)
    × IsMatch answer pattern input first.1)
    × All (λ earlier. ¬ HasMatch answer earlier input) (take first.0 patterns)
IsFirstMatch answer patterns input None = All (λ pattern. HasNoMatch answer pattern input) patterns

-- The option is the first match of the list on eight texts: the least index whose pattern matches
-- the texts, and the results of that pattern's components. `None`: no pattern matches.
abbrev pub IsFirstMatchOf : {E : Type 0} → (answer : E → List ℕ → Option Captures)
    → List (PatternView E) → Texts → Option FirstView → Type 0
IsFirstMatchOf {E} answer patterns texts (Some first) =
    ((pattern : PatternView E) × (slice_get patterns first.0 ≡ Some pattern)
    × IsMatchOf answer pattern texts first.1)
    × All (λ earlier. DoesNotMatch answer earlier texts) (take first.0 patterns)
IsFirstMatchOf answer patterns texts None =
    All (λ pattern. DoesNotMatch answer pattern texts) patterns

-- `found`, which borrows from the patterns, is the first match of the list on eight texts
-- (`IsFirstMatchOf`).
abbrev pub IsFirstCaptured : {E : Type 0} → (answer : E → List ℕ → Option Captures)
    → List (PatternView E) → Texts → Option (ℕ × UrlPatternCaptures) → Type 0
IsFirstCaptured answer patterns texts found =
    IsFirstMatchOf answer patterns texts (first_captures_view found)

-- If a match was found, its groups are the groups of the pattern at its index, in the pattern's
-- order, each with what it captures of the texts.
abbrev pub HasGroupsInOrder : {E : Type 0} → (answer : E → List ℕ → Option Captures)
    → List (PatternView E) → Texts → Option (ℕ × UrlPatternCaptures) → Type 0
HasGroupsInOrder {E} answer patterns texts found =
    IfSome found (λ first. (pattern : PatternView E) × (slice_get patterns first.0 ≡ Some pattern)
    × AreGroupsInOrder answer pattern texts (groups_view first.1))

-- Some pattern of the list calls an engine for eight texts, and no earlier pattern matches them.
abbrev pub CallsEngineBeforeMatch : {E : Type 0} → (answer : E → List ℕ → Option Captures)
    → List (PatternView E) → Texts → Type 0
CallsEngineBeforeMatch {E} answer patterns texts =
    (index : ℕ) × (pattern : PatternView E) × (slice_get patterns index ≡ Some pattern)
    × CallsAnEngine answer pattern texts
    × All (λ earlier. DoesNotMatch answer earlier texts) (take index patterns)

-- Finding and copying the first match of eight texts may allocate: an engine is called before any
-- pattern matches, or some pattern matches, so that the match is copied.
abbrev pub CopiesFirstMatch : {E : Type 0} → (answer : E → List ℕ → Option Captures)
    → List (PatternView E) → Texts → Type 0
CopiesFirstMatch {E} answer patterns texts =
    CallsEngineBeforeMatch answer patterns texts
    ⊎ ((index : ℕ) × (pattern : PatternView E)
    × (slice_get patterns index ≡ Some pattern)
    × AreMatched answer pattern texts)
