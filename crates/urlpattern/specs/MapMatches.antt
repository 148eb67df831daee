-- The matches of a map, one after the other. `answer` is what an engine returns for a text.
use Rattle.std.specs.Prelude.{◌≡◌, ◌+◌, ℕ, List, length, Option, Some, None, Result, Ok, Err}
use Rattle.std.specs.Borrow.{Bor}
use Rattle.urlpattern.specs.FirstMatch.{HasGroupsInOrder}
use Rattle.urlpattern.specs.NextMatch.{CallsEngineBeforeMatchFrom, IsFirstCapturedFrom}
use Rattle.urlpattern.specs.Paths.{IsPath}
use Rattle.urlpattern.specs.PatternMaps.{HasValueAt, entry_patterns, without_value}
use Rattle.urlpattern.specs.declared.map.matches.UrlPatternMapMatches.{UrlPatternMapMatches}
use Rattle.urlpattern_components.specs.Eight.{Texts}
use Rattle.urlpattern_matches.specs.GroupTexts.{borrowed_texts}
use Rattle.urlpattern_matches.specs.MatchInput.{pathname_alone}
use Rattle.urlpattern_matches.specs.declared.captures.UrlPatternCaptures.{UrlPatternCaptures}
use Rattle.urlpattern_meaning.specs.PartMeaning.{Captures}
use Rattle.urlpattern_pattern.specs.UrlPatterns.{UrlPattern}
use Rattle.urlpattern_syntax.specs.declared.error.Error.{Error}
use Rattle.urlpattern_syntax.specs.declared.error.Error.TheVariants as errors

-- What an iterator over matches has yet to try: the entries whose index is at least `from`, on
-- eight texts.
pub record EntriesLeft (E T : Type 0) : Type 0 where
  pub entries : List (UrlPattern E × T)
  pub texts : Texts
  pub from : ℕ

-- What a `UrlPatternMapMatches` has yet to try.
abbrev pub entries_left : {E T : Type 0} → UrlPatternMapMatches T E → EntriesLeft E T
entries_left matches = record {
  entries = matches.map.now;
  texts = borrowed_texts matches.texts;
  from = matches.from;
}

-- All entries, and eight texts.
abbrev pub all_entries : {E T : Type 0} → List (UrlPattern E × T) → Texts → EntriesLeft E T
all_entries entries texts = record { entries = entries; texts = texts; from = 0 }

-- A call of `next`, where `old` and `new` are what is yet to be tried before and after. A match is
-- the first from `old.from` on, with the value at its index, and the entries after that index are
-- then left. The error is that an engine ran out of memory, and no entry is then left. `None`: no
-- pattern that is left matches.
abbrev pub YieldsEntry : {E T : Type 0} → (answer : E → List ℕ → Option Captures)
    → EntriesLeft E T → Option (Result (ℕ × Bor T × UrlPatternCaptures) Error) → EntriesLeft E T
    → Type 0
YieldsEntry answer old (Some (Ok first)) new =
    IsFirstCapturedFrom answer (entry_patterns old.entries) old.texts old.from
    (without_value (Some first))
    × HasGroupsInOrder answer (entry_patterns old.entries) old.texts (without_value (Some first))
    × HasValueAt old.entries (Some first)
    × (new ≡ record old { from = first.0 + 1 })
YieldsEntry answer old (Some (Err error)) new =
    (error ≡ errors.OutOfMemory)
    × CallsEngineBeforeMatchFrom answer (entry_patterns old.entries) old.texts old.from
    × (new ≡ record old { from = length old.entries })
YieldsEntry answer old None new =
    IsFirstCapturedFrom answer (entry_patterns old.entries) old.texts old.from None × (new ≡ old)

-- An iterator over the matches of a path has yet to try all entries. `None`: the text is no path.
abbrev pub HasEntriesOfPath : {E T : Type 0} → List (UrlPattern E × T) → (path : List ℕ)
    → Option (UrlPatternMapMatches T E) → Type 0
HasEntriesOfPath entries path (Some matches) =
    IsPath path × (entries_left matches ≡ all_entries entries (pathname_alone path))
HasEntriesOfPath entries path None = ¬ IsPath path
