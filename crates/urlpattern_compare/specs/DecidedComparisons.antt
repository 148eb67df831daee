-- Comparisons of two patterns that a single component decides.
use Rattle.std.specs.Prelude.{◌≡◌, ◌⊎◌, ℕ, List}
use Rattle.urlpattern_compare.specs.Comparing.{AreApart, AreSame, IsOnlyIn, IsPatternCovering, IsPatternOverlap, IsReasonFor, IsReasonToShare}
use Rattle.urlpattern_compare.specs.declared.coverage.Reason.{Reason}
use Rattle.urlpattern_compare.specs.declared.coverage.Reason.TheVariants.{TooMany}
use Rattle.urlpattern_compare.specs.declared.pattern_parts.PatternCovering.{PatternCovering}
use Rattle.urlpattern_compare.specs.declared.pattern_parts.PatternCovering.TheVariants as answers
use Rattle.urlpattern_compare.specs.declared.pattern_parts.PatternOverlap.{PatternOverlap}
use Rattle.urlpattern_compare.specs.declared.pattern_parts.PatternOverlap.TheVariants as commons
use Rattle.urlpattern_compare.specs.declared.pattern_parts.PatternParts.{PatternParts}
use Rattle.urlpattern_components.specs.declared.eight.ComponentName.{ComponentName}
use Rattle.urlpattern_components.specs.Eight.{at}

-- Of two patterns that are equal in each component, in the sense of `AreSame`, `covers` returns
-- `Covered`.
abbrev pub EqualAreCovered : Type 0
EqualAreCovered =
    (pattern asked : PatternParts) (covering : PatternCovering)
    → ((name : ComponentName)
    → AreSame (at pattern.components name) (at asked.components name))
    → IsPatternCovering pattern asked covering → covering ≡ answers.Covered

-- Of two patterns that a text of the component `parted` parts, `covers` returns `Unknown` only if
-- to look for such a text may take too much work.
abbrev pub PartedAreKnown : Type 0
PartedAreKnown =
    (pattern asked : PatternParts) (parted : ComponentName) (text : List ℕ)
    → IsOnlyIn (at pattern.components parted) (at asked.components parted) text
    → (name : ComponentName) (reason : Reason)
    → IsPatternCovering pattern asked (answers.Unknown name reason)
    → IsReasonFor (at pattern.components parted) (at asked.components parted) TooMany

-- Of two patterns whose component `apart` is apart, `overlaps` returns `Apart`, unless to look for
-- a text that both components match may take too much work.
abbrev pub ApartAreKnown : Type 0
ApartAreKnown =
    (pattern other : PatternParts) (apart : ComponentName) (overlap : PatternOverlap)
    → AreApart (at pattern.components apart) (at other.components apart)
    → IsPatternOverlap pattern other overlap
    → (overlap ≡ commons.Apart)
    ⊎ IsReasonToShare (at pattern.components apart) (at other.components apart) TooMany
