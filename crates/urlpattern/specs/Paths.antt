-- The matches of a path by a list of patterns, where all other components are empty. `answer` is
-- what an engine returns for a text.
use Rattle.std.specs.List.{list_all}
use Rattle.std.specs.Prelude.{◌≡◌, ℕ, ◌==◌, not, ◌&&◌, IsTrue, List, None, Option, Some, codes}
use Rattle.url.specs.Ascii.{number_sign, question_mark, slash}
use Rattle.urlpattern.specs.FirstMatch.{CallsEngineBeforeMatch, HasGroupsInOrder, IsFirstCaptured}
use Rattle.urlpattern.specs.NextMatch.{matches_left}
use Rattle.urlpattern.specs.declared.list.matches.UrlPatternMatches.{UrlPatternMatches}
use Rattle.urlpattern.specs.declared.path_error.PathError.{PathError}
use Rattle.urlpattern.specs.declared.path_error.PathError.TheVariants.{NotAPath, OutOfMemory}
use Rattle.urlpattern_init.specs.UrlTexts.{IsLine}
use Rattle.urlpattern_meaning.specs.PartMeaning.{Captures}
use Rattle.urlpattern_matches.specs.MatchInput.{pathname_alone}
use Rattle.urlpattern_matches.specs.declared.captures.UrlPatternCaptures.{UrlPatternCaptures}
use Rattle.urlpattern_pattern.specs.Patterns.{PatternView}
use Rattle.urlpattern_syntax.specs.Text.{begins_with}

-- The text is a path by itself: a line that begins with a slash, without the characters that end a
-- path in a URL, `?` and `#`.
pub record IsPath (text : List ℕ) : Type 0 where
  pub line : IsLine text
  pub rooted : IsTrue (begins_with (λ c. c == slash) text)
  pub unended : IsTrue
      (list_all (λ c. not (c == question_mark) && not (c == number_sign)) text)

-- The text is a path, and `found` the first match of the list on it.
abbrev pub IsFirstOfPath : {E : Type 0} → (answer : E → List ℕ → Option Captures)
    → List (PatternView E) → (path : List ℕ) → Option (ℕ × UrlPatternCaptures) → Type 0
IsFirstOfPath answer patterns path found =
    IsPath path × IsFirstCaptured answer patterns (pathname_alone path) found

-- If a match was found, its groups are the groups of the pattern at its index, in the pattern's
-- order, each with what it captures of the path.
abbrev pub HasGroupsOfPath : {E : Type 0} → (answer : E → List ℕ → Option Captures)
    → List (PatternView E) → (path : List ℕ) → Option (ℕ × UrlPatternCaptures) → Type 0
HasGroupsOfPath answer patterns path found =
    HasGroupsInOrder answer patterns (pathname_alone path) found

-- What each error of matching a text as a path says. `NotAPath`: it is no path. `OutOfMemory`: it
-- is one, and an engine is called for it before any pattern matches.
abbrev pub IsPathError : {E : Type 0} → (answer : E → List ℕ → Option Captures)
    → List (PatternView E) → (path : List ℕ) → PathError → Type 0
IsPathError answer patterns path NotAPath = ¬ IsPath path
IsPathError answer patterns path OutOfMemory =
    IsPath path × CallsEngineBeforeMatch answer patterns (pathname_alone path)

-- An iterator over the matches of a path has yet to try all patterns. `None`: the text is no path.
abbrev pub HasMatchesOfPath : {E : Type 0} → List (PatternView E) → (path : List ℕ)
    → Option (UrlPatternMatches E) → Type 0
HasMatchesOfPath patterns path (Some matches) =
    IsPath path
    × (matches_left matches
    ≡ record { patterns = patterns; texts = pathname_alone path; from = 0 })
HasMatchesOfPath patterns path None = ¬ IsPath path

-- The text as which the error is printed.
abbrev pub path_error_text : PathError → List ℕ
path_error_text NotAPath =
    codes "a path begins with `/` and has no `?`, no `#` and no line feed"
path_error_text OutOfMemory = codes "out of memory"
