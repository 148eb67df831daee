-- Patterns compared by their parts.
use Rattle.std.specs.Prelude.{◌≡◌, ◌⊎◌, ℕ, List, None, Some, IsSomeAnd, codes}
use Rattle.urlpattern_pattern.specs.UrlPatterns.{UrlPattern}
use Rattle.urlpattern_pattern.specs.declared.pattern.compare.CompareError.{CompareError}
use Rattle.urlpattern_pattern.specs.declared.pattern.compare.CompareError.TheVariants.{NoParts, OutOfMemory}
use Rattle.urlpattern_compare.specs.declared.pattern_parts.PatternParts.{PatternParts}

-- `pattern` has the parts `parts`, and `other` has the parts `others`.
abbrev pub HaveParts : {E : Type 0} → (pattern other : UrlPattern E)
    → (parts others : PatternParts) → Type 0
HaveParts pattern other parts others = (pattern.parts ≡ Some parts) × (other.parts ≡ Some others)

-- The two patterns have parts, and `Holds` is true of the parts.
abbrev pub OfPartsOfBoth : {E : Type 0} → (pattern other : UrlPattern E)
    → (Holds : (parts others : PatternParts) → Type 0) → Type 0
OfPartsOfBoth pattern other Holds =
    IsSomeAnd pattern.parts (λ parts. IsSomeAnd other.parts (λ others. Holds parts others))

-- The error of a comparison: `NoParts` only if one of the two patterns has no parts, and
-- `OutOfMemory` only if both have parts.
abbrev pub LackParts : {E : Type 0} → (pattern other : UrlPattern E) → CompareError → Type 0
LackParts pattern other NoParts = (pattern.parts ≡ None) ⊎ (other.parts ≡ None)
LackParts pattern other OutOfMemory = OfPartsOfBoth pattern other (λ parts others. Unit {0})

-- The text as which the error is printed.
abbrev pub compare_error_text : CompareError → List ℕ
compare_error_text NoParts = codes "a pattern that was put together by hand has no parts"
compare_error_text OutOfMemory = codes "out of memory"
