-- The patterns that a store permits.
use Rattle.std.specs.Prelude.{ℕ, List}
use Rattle.urlpattern.specs.Comparing.{CoversAt}
use Rattle.urlpattern.specs.PatternParts.{PatternParts}

-- Some pattern of the list of granted patterns covers the asked one.
abbrev pub IsGranted : List PatternParts → (asked : PatternParts) → Type 0
IsGranted granted asked = (index : ℕ) × CoversAt granted asked index
