-- The rule at the index of the first pattern that matches, for lists with a rule for each pattern.
use Rattle.std.specs.Prelude.{◌≡◌, ℕ, List, Option, None, Some, slice_get}
use Rattle.urlpattern.specs.FirstMatch.{FirstView, IsFirstMatch}
use Rattle.urlpattern.specs.Patterns.{PatternView}
use Rattle.urlpattern.specs.PartMeaning.{Captures}
use Rattle.urlpattern.specs.UrlPatternMatchInput.{UrlPatternMatchInput}

-- The option is the rule at the index of the first pattern of the list that matches the input.
-- `None`: no pattern matches.
abbrev pub IsOfFirst : {E A : Type 0} → (answer : E → List ℕ → Option Captures)
    → List (PatternView E) → (rules : List A) → UrlPatternMatchInput → Option A → Type 0
IsOfFirst answer patterns rules input (Some rule) =
    (first : FirstView) × IsFirstMatch answer patterns input (Some first)
    × (slice_get rules first.0 ≡ Some rule)
IsOfFirst answer patterns rules input None = IsFirstMatch answer patterns input None
