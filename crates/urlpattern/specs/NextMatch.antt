-- The matches of a list of patterns, one after the other. Eight texts are the texts of an input's
-- eight components. `answer` is what an engine returns for a text.
use Rattle.std.specs.Prelude.{◌≡◌, ◌+◌, ◌<◌, ◌≤◌, ℕ, List, length, Option, Some, None, Result, Ok, Err, slice_get, unwrap_or}
use Rattle.urlpattern.specs.FirstMatch.{FirstView, HasGroupsInOrder, first_captures_view, patterns_view}
use Rattle.urlpattern.specs.PatternKeys.{address_of}
use Rattle.urlpattern.specs.declared.list.matches.UrlPatternMatches.{UrlPatternMatches}
use Rattle.urlpattern_index.specs.Keys.{Hashes, hashes_of}
use Rattle.urlpattern_meaning.specs.PartMeaning.{Captures}
use Rattle.urlpattern_matches.specs.declared.captures.UrlPatternCaptures.{UrlPatternCaptures}
use Rattle.urlpattern_matches.specs.BorrowedMatches.{pattern_captures_view}
use Rattle.urlpattern_matches.specs.GroupTexts.{borrowed_texts}
use Rattle.urlpattern_pattern.specs.Patterns.{PatternView}
use Rattle.urlpattern_pattern.specs.Match.{CallsAnEngine, IsMatchOf, DoesNotMatch}
use Rattle.urlpattern_syntax.specs.declared.error.Error.{Error}
use Rattle.urlpattern_syntax.specs.declared.error.Error.TheVariants as errors
use Rattle.urlpattern_components.specs.Eight.{Texts}

-- No pattern whose index is at least `from` and less than `end` matches eight texts.
abbrev pub NoneMatchBetween : {E : Type 0} → (answer : E → List ℕ → Option Captures)
    → List (PatternView E) → Texts → (from end : ℕ) → Type 0
NoneMatchBetween {E} answer patterns texts from end =
    (index : ℕ) (pattern : PatternView E) → from ≤ index → index < end
    → slice_get patterns index ≡ Some pattern → DoesNotMatch answer pattern texts

-- No pattern whose index is at least `from` and less than `found` matches eight texts that have
-- `hashes`, by which an index finds patterns. `None`: no pattern whose index is at least `from`
-- matches them.
abbrev pub SkipsOnlyMismatches : {E : Type 0} → (answer : E → List ℕ → Option Captures)
    → List (PatternView E) → Hashes → (from : ℕ) → (found : Option ℕ) → Type 0
SkipsOnlyMismatches answer patterns hashes from found =
    (texts : Texts) → hashes ≡ hashes_of (address_of texts)
    → NoneMatchBetween answer patterns texts from (unwrap_or found (length patterns))

-- The option is the first match of eight texts by a pattern whose index is at least `from`: the
-- least such index, and the results of the pattern's components. `None`: no such pattern matches.
abbrev pub IsFirstMatchFrom : {E : Type 0} → (answer : E → List ℕ → Option Captures)
    → List (PatternView E) → Texts → (from : ℕ) → Option FirstView → Type 0
IsFirstMatchFrom {E} answer patterns texts from (Some first) =
    (from ≤ first.0)
    × ((pattern : PatternView E) × (slice_get patterns first.0 ≡ Some pattern)
    × IsMatchOf answer pattern texts first.1)
    × NoneMatchBetween answer patterns texts from first.0
IsFirstMatchFrom answer patterns texts from None =
    NoneMatchBetween answer patterns texts from (length patterns)

-- `found`, which borrows from the patterns, is the first match of eight texts by a pattern whose
-- index is at least `from` (`IsFirstMatchFrom`).
abbrev pub IsFirstCapturedFrom : {E : Type 0} → (answer : E → List ℕ → Option Captures)
    → List (PatternView E) → Texts → (from : ℕ) → Option (ℕ × UrlPatternCaptures) → Type 0
IsFirstCapturedFrom answer patterns texts from found =
    IsFirstMatchFrom answer patterns texts from (first_captures_view found)

-- Some pattern whose index is at least `from` calls an engine for eight texts, and no pattern from
-- `from` on, before that one, matches them.
abbrev pub CallsEngineBeforeMatchFrom : {E : Type 0} → (answer : E → List ℕ → Option Captures)
    → List (PatternView E) → Texts → (from : ℕ) → Type 0
CallsEngineBeforeMatchFrom {E} answer patterns texts from =
    (index : ℕ) × (pattern : PatternView E)
    × (from ≤ index)
    × (slice_get patterns index ≡ Some pattern)
    × CallsAnEngine answer pattern texts
    × NoneMatchBetween answer patterns texts from index

-- What an iterator over matches has yet to try: the patterns whose index is at least `from`, on
-- eight texts.
pub record MatchesLeft (E : Type 0) : Type 0 where
  pub patterns : List (PatternView E)
  pub texts : Texts
  pub from : ℕ

-- What a `UrlPatternMatches` has yet to try.
abbrev pub matches_left : {E : Type 0} → UrlPatternMatches E → MatchesLeft E
matches_left matches = record {
  patterns = patterns_view matches.list.now;
  texts = borrowed_texts matches.texts;
  from = matches.from;
}

-- A call of `next`, where `old` and `new` are what is yet to be tried before and after. A match is
-- the first from `old.from` on, and the patterns after its index are then left. The error is that
-- an engine ran out of memory, and no pattern is then left. `None`: no pattern that is left
-- matches.
abbrev pub YieldsMatch : {E : Type 0} → (answer : E → List ℕ → Option Captures) → MatchesLeft E
    → Option (Result (ℕ × UrlPatternCaptures) Error) → MatchesLeft E → Type 0
YieldsMatch answer old (Some (Ok first)) new =
    IsFirstMatchFrom answer old.patterns old.texts old.from
    (Some (first.0, pattern_captures_view first.1))
    × HasGroupsInOrder answer old.patterns old.texts (Some first)
    × (new ≡ record old { from = first.0 + 1 })
YieldsMatch answer old (Some (Err error)) new =
    (error ≡ errors.OutOfMemory)
    × CallsEngineBeforeMatchFrom answer old.patterns old.texts old.from
    × (new ≡ record old { from = length old.patterns })
YieldsMatch answer old None new =
    IsFirstMatchFrom answer old.patterns old.texts old.from None × (new ≡ old)
