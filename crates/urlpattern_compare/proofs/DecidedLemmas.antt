-- A component that decides a comparison leaves no doubt.
use Rattle.std.proofs.Common.{ℕ, List, Option, Some, None, inl, inr, refl}
use Rattle.std.specs.Prelude.{IsSomeAnd, String}
use Rattle.std.specs.declared.alloc.Global.{Global}
use Rattle.urlpattern_compare.proofs.SameParts.{same_within}
use Rattle.urlpattern_compare.specs.Comparing.{AreApart, AreSame, IsCommonText, IsComponentCovered, IsKnown, IsOnlyIn, IsReasonFor, IsReasonToShare}
use Rattle.urlpattern_compare.specs.DecidedComparisons.{ApartAreKnown, EqualAreCovered, PartedAreKnown}
use Rattle.urlpattern_compare.specs.declared.coverage.Reason.{Reason}
use Rattle.urlpattern_compare.specs.declared.coverage.Reason.TheVariants as reasons
use Rattle.urlpattern_compare.specs.declared.pattern_parts.PatternCovering.TheVariants as answers
use Rattle.urlpattern_compare.specs.declared.pattern_parts.PatternOverlap.TheVariants as commons
use Rattle.urlpattern_components.specs.Eight.{at}
use Rattle.urlpattern_syntax.specs.Text.{text_of}
use Rattle.urlpattern_syntax.specs.declared.parts.ComponentParts.{ComponentParts}

-- ---- one component

-- If both meanings are known, the work is too much.
known_reason : (component other : ComponentParts) (reason : Reason) → IsKnown component → IsKnown other → IsReasonFor component other reason → IsReasonFor component other reasons.TooMany
known_reason component other reasons.CustomExpression known other_known (inl is) = absurd (is.0 other_known)
known_reason component other reasons.CustomExpression known other_known (inr is) = absurd (is.0 known)
known_reason component other reasons.IgnoredCase known other_known (inl is) = absurd (is.0 other_known)
known_reason component other reasons.IgnoredCase known other_known (inr is) = absurd (is.0 known)
known_reason component other reasons.TooMany known other_known is = is

uncovered : (component asked : ComponentParts) (text : List ℕ) → IsOnlyIn component asked text → ¬ IsComponentCovered component asked
uncovered component asked text only (inl each) = only.not_meant (each.takes text only.meant.line)
uncovered component asked text only (inr (inl within)) = only.not_meant (within.within text only.meant.line only.meant.means)
uncovered component asked text only (inr (inr same)) = only.not_meant ((same_within component asked same only.known).within text only.meant.line only.meant.means)

unparted : (component asked : ComponentParts) (found : Option (String Global)) → AreSame component asked → ¬ IsSomeAnd found (λ text. IsOnlyIn component asked (text_of text))
unparted component asked None same only = only
unparted component asked (Some text) same only = uncovered component asked (text_of text) only (inr (inr same))

uncommon : (component other : ComponentParts) (found : Option (String Global)) → AreApart component other → IsCommonText component other found → IsReasonToShare component other reasons.TooMany
uncommon component other None apart (same, doubted) = known_reason other component doubted.0 apart.other_known apart.known doubted.1
uncommon component other (Some text) apart both = absurd (apart.apart (text_of text) both.0.line both.0.means both.1.means)

-- ---- two patterns

pub equal_covered : EqualAreCovered
equal_covered pattern asked answers.Covered same is = refl
equal_covered pattern asked (answers.NotCovered parting) same is =
    let name = parting.component in
    absurd (unparted (at pattern.components name) (at asked.components name) (at parting.texts name) (same name) is.parted)
equal_covered pattern asked (answers.Unknown name reason) same is = absurd (is.doubt.1 (same name))

pub parted_known : PartedAreKnown
parted_known pattern asked parted text only name reason is =
    let component = at pattern.components parted in
    let other = at asked.components parted in
    elim (is.may_cover parted) [
      | inl covered ↦ absurd (uncovered component other text only covered)
      | inr doubt ↦ known_reason component other doubt.0 only.known only.meant.known doubt.1.0
    ]

pub apart_known : ApartAreKnown
apart_known pattern other apart commons.Apart are is = inl refl
apart_known pattern other apart (commons.Common texts) are is = inr (uncommon (at pattern.components apart) (at other.components apart) (at texts apart) are (is apart))
apart_known pattern other apart (commons.Unknown name reason) are is =
    let component = at pattern.components apart in
    let another = at other.components apart in
    inr (elim (is.may_overlap apart) [
      | inl common ↦ uncommon component another common.0 are common.1
      | inr doubt ↦ known_reason another component doubt.0 are.other_known are.known doubt.1.0
    ])
