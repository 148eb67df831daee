-- Lemmas on patterns that are compared.
use Rattle.std.proofs.Common.{◌≡◌, ℕ}
use Rattle.std.specs.Prelude.{Option, None, Some, IsSomeAnd, slice_get}
use Rattle.urlpattern_ffi.specs.ReportedCoverings.{AreCompared, IsCoveringReported}
use Rattle.urlpattern_ffi.specs.KeptPatterns.{PatternList}
use Rattle.urlpattern_ffi.specs.declared.status.Status.{Status}
use Rattle.urlpattern_ffi.specs.declared.status.Status.TheVariants as statuses
use Rattle.urlpattern_engine.specs.declared.pattern_regexp.PatternRegexp.{PatternRegexp}
use Rattle.urlpattern_pattern.specs.PatternComparing.{OfPartsOfBoth}
use Rattle.urlpattern_pattern.specs.UrlPatterns.{UrlPattern}
use Rattle.urlpattern_compare.specs.declared.pattern_parts.PatternParts.{PatternParts}

some_and : {X : Type 0} (found : Option X) (P Q : X → Type 0) → ((x : X) → P x → Q x) → IsSomeAnd found P → IsSomeAnd found Q
some_and None P Q weaker is = absurd is
some_and (Some x) P Q weaker is = weaker x is

-- A fact of the parts of both patterns implies a weaker fact.
pub of_both : {E : Type 0} (pattern other : UrlPattern E) (P Q : (parts others : PatternParts) → Type 0)
    → ((parts others : PatternParts) → P parts others → Q parts others) → OfPartsOfBoth pattern other P → OfPartsOfBoth pattern other Q
of_both pattern other P Q weaker =
    some_and pattern.parts (λ parts. IsSomeAnd other.parts (P parts)) (λ parts. IsSomeAnd other.parts (Q parts))
    (λ parts. some_and other.parts (P parts) (Q parts) (weaker parts))

-- The outcome for two patterns is the one for the patterns at their indices.
pub covering_reported : (patterns : PatternList) (index : ℕ) (others : PatternList) (asked : ℕ) (pattern other : UrlPattern PatternRegexp) (number : ℕ) (status : Status)
    → slice_get patterns index ≡ Some pattern → slice_get others asked ≡ Some other → AreCompared pattern other number status
    → IsCoveringReported patterns index others asked number status
covering_reported patterns index others asked pattern other number statuses.NoPattern is other_is compared = absurd compared
covering_reported patterns index others asked pattern other number status is other_is compared = (pattern, other, is, other_is, compared)
