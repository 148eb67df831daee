-- Patterns with values, and the first match among them.
use Rattle.std.specs.Prelude.{◌≡◌, ◌∷◌, ◌++◌, ℕ, List, Option, Some, IfSome, option_map, slice_get}
use Rattle.std.specs.Borrow.{Bor}
use Rattle.std.specs.Map.{keys_of, values_of}
use Rattle.urlpattern_pattern.specs.UrlPatterns.{UrlPattern}
use Rattle.urlpattern_matches.specs.declared.captures.UrlPatternCaptures.{UrlPatternCaptures}
use Rattle.urlpattern_matches.specs.BorrowedMatches.{pattern_captures_view}
use Rattle.urlpattern_pattern.specs.Patterns.{PatternView}
use Rattle.urlpattern.specs.FirstMatch.{FirstView, patterns_view}

-- The compiled components of the pattern of each entry, in order.
abbrev pub entry_patterns : {E T : Type 0} → List (UrlPattern E × T) → List (PatternView E)
entry_patterns entries = patterns_view (keys_of entries)

-- A match of a map without the value: the index of the pattern, and the captures.
abbrev pub without_value : {T : Type 0} → Option (ℕ × Bor T × UrlPatternCaptures)
    → Option (ℕ × UrlPatternCaptures)
without_value found = option_map (λ first. (first.0, first.2)) found

-- A match of a map without the value: the index of the pattern, and the result of each component.
abbrev pub first_entry_view : {T : Type 0} → Option (ℕ × Bor T × UrlPatternCaptures)
    → Option FirstView
first_entry_view found = option_map (λ first. (first.0, pattern_captures_view first.2)) found

-- If a match was found, its value is the value of the entry at its index.
abbrev pub HasValueAt : {K T M : Type 0} → List (K × T) → Option (ℕ × Bor T × M) → Type 0
HasValueAt entries found =
    IfSome found (λ first. slice_get (values_of entries) first.0 ≡ Some first.1.now)

-- `after` is `before` with the entries before `refused` appended, and none of the others.
abbrev pub AppendsUntilRefused : {A : Type 0} → (before entries after : List A) → Type 0
AppendsUntilRefused {A} before entries after =
    (appended : List A) × (refused : A) × (others : List A)
    × (entries ≡ appended ++ refused ∷ others)
    × (after ≡ before ++ appended)
