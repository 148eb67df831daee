-- Comparisons of eight components.
use Rattle.std.proofs.Common.{◌≡◌, ℕ, ◌<◌, ◌+◌, List, Option, Some, None, Result, Ok, Err, inl, inr, length, subst, sym, take, get_or}
use Rattle.std.proofs.lemmas.List.Elements.{All-more, All-weaker}
use Rattle.std.specs.List.{All}
use Rattle.std.specs.Prelude.{IsSomeAnd, String, option_map}
use Rattle.std.specs.declared.alloc.Global.{Global}
use Rattle.urlpattern_compare.specs.declared.coverage.Covering.{Covering}
use Rattle.urlpattern_compare.specs.declared.coverage.Covering.TheVariants as coverings
use Rattle.urlpattern_compare.specs.declared.coverage.Overlap.{Overlap}
use Rattle.urlpattern_compare.specs.declared.coverage.Overlap.TheVariants as overlaps
use Rattle.urlpattern_compare.specs.declared.coverage.Reason.{Reason}
use Rattle.urlpattern_compare.specs.Comparing.{IsComponentCovered, IsComponentCovering, IsComponentOverlap, IsOnlyIn, IsOverlapReason, IsReasonToDoubt, IsReasonToPart, IsReasonToShare, MayCover, MayOverlap}
use Rattle.urlpattern_compare.specs.ComparingSteps.{AreCommonOrDoubtful, IsCommonOrDoubtful, IsExampleIn, IsFirstUncovered, IsTextWith, first_or}
use Rattle.urlpattern_compare.specs.declared.first_uncovered.FirstUncovered.{FirstUncovered}
use Rattle.urlpattern_compare.specs.declared.first_uncovered.FirstUncovered.TheVariants as firsts
use Rattle.urlpattern_compare.specs.declared.pattern_parts.NoText.{NoText}
use Rattle.urlpattern_compare.specs.declared.pattern_parts.PatternParts.{PatternParts}
use Rattle.urlpattern_components.proofs.EightLemmas.{of_each}
use Rattle.urlpattern_components.specs.Eight.{at, components}
use Rattle.urlpattern_components.specs.declared.eight.ComponentName.{ComponentName}
use Rattle.urlpattern_components.specs.declared.eight.Eight.{Eight}
use Rattle.urlpattern_syntax.specs.Text.{text_of}
use Rattle.urlpattern_syntax.specs.declared.parts.ComponentParts.{ComponentParts}

-- The reason why it is not known whether two components overlap.
pub overlap_unknown : (component other own its : ComponentParts) (overlap : Overlap) (reason : Reason) → own ≡ component → its ≡ other → overlap ≡ overlaps.Unknown reason → IsComponentOverlap own its overlap →
    IsReasonToShare component other reason
overlap_unknown component other own its overlap reason own_is its_is e is =
    subst (IsComponentOverlap component other) e (subst (λ o. IsComponentOverlap component o overlap) its_is (subst (λ o. IsComponentOverlap o its overlap) own_is is))

abbrev pub IsCoveredIn : (pattern asked : PatternParts) → ComponentName → Type 0
IsCoveredIn pattern asked name = IsComponentCovered (at pattern.components name) (at asked.components name)

abbrev pub MayCoverIn : (pattern asked : PatternParts) → ComponentName → Type 0
MayCoverIn pattern asked name = MayCover (at pattern.components name) (at asked.components name)

-- What was found in these components.
abbrev pub IsSoFar : (pattern asked : PatternParts) → List ComponentName → FirstUncovered → Type 0
IsSoFar pattern asked names firsts.Nowhere = All (IsCoveredIn pattern asked) names
IsSoFar pattern asked names (firsts.At name text) = IsOnlyIn (at pattern.components name) (at asked.components name) text.items
IsSoFar pattern asked names (firsts.Unknown name reason) =
    IsReasonToDoubt (at pattern.components name) (at asked.components name) reason × All (MayCoverIn pattern asked) names

may_cover_all : (pattern asked : PatternParts) (names : List ComponentName) → All (IsCoveredIn pattern asked) names → All (MayCoverIn pattern asked) names
may_cover_all pattern asked names are = All-weaker (IsCoveredIn pattern asked) (MayCoverIn pattern asked) (λ name is. inl is) names are

-- A further component.
pub so_far_more : (pattern asked : PatternParts) (names : List ComponentName) (i : ℕ) (d : ComponentName) (first : FirstUncovered) (covering : Covering) → i < length names →
    IsSoFar pattern asked (take i names) first → IsComponentCovering (at pattern.components (get_or names i d)) (at asked.components (get_or names i d)) covering →
    IsSoFar pattern asked (take (i + 1) names) (first_or first (get_or names i d) covering)
so_far_more pattern asked names i d (firsts.At earlier text) covering lt before now = before
so_far_more pattern asked names i d firsts.Nowhere coverings.Covered lt before now = All-more (IsCoveredIn pattern asked) names i d lt before now
so_far_more pattern asked names i d firsts.Nowhere (coverings.NotCovered text) lt before now = now
so_far_more pattern asked names i d firsts.Nowhere (coverings.Unknown reason) lt before now =
    (now, All-more (MayCoverIn pattern asked) names i d lt (may_cover_all pattern asked (take i names) before) (inr (reason, now)))
so_far_more pattern asked names i d (firsts.Unknown earlier why) coverings.Covered lt before now = (before.0, All-more (MayCoverIn pattern asked) names i d lt before.1 (inl now))
so_far_more pattern asked names i d (firsts.Unknown earlier why) (coverings.NotCovered text) lt before now = now
so_far_more pattern asked names i d (firsts.Unknown earlier why) (coverings.Unknown reason) lt before now = (now, All-more (MayCoverIn pattern asked) names i d lt before.1 (inr (reason, now)))

-- All components.
pub so_far_all : (pattern asked : PatternParts) (first : FirstUncovered) → IsSoFar pattern asked components first → IsFirstUncovered pattern asked first
so_far_all pattern asked firsts.Nowhere all = of_each (IsCoveredIn pattern asked) all
so_far_all pattern asked (firsts.At name text) is = is
so_far_all pattern asked (firsts.Unknown name reason) is = (is.0, of_each (MayCoverIn pattern asked) is.1)

-- ---- texts

-- A component whose text is known parts two patterns.
pub parted : (component asked : ComponentParts) (found : Option (String Global)) (text : List ℕ) → option_map text_of found ≡ Some text → IsOnlyIn component asked text
    → IsSomeAnd found (λ it. IsOnlyIn component asked (text_of it))
parted component asked None text e is = absurd cc
parted component asked (Some it) text e is = let same : text_of it ≡ text = cc in subst (IsOnlyIn component asked) (sym same) is

-- An example is the text of another component than the one that parts.
pub example_with : (asked : PatternParts) (uncovered : ComponentName) (text : List ℕ) (name : ComponentName) (result : Result (Option (String Global)) NoText)
    → ¬ (name ≡ uncovered) → IsExampleIn asked name result → IsTextWith asked uncovered text name result
example_with asked uncovered text name (Ok found) other is = (λ meant. is, λ same. absurd (other same))
example_with asked uncovered text name (Err lack) other is = is

-- What is known of a component does not part two patterns.
may_overlap : (pattern other : PatternParts) (name : ComponentName) (found : Result (Option (String Global)) (ComponentName × Reason))
    → IsCommonOrDoubtful pattern other name found → MayOverlap (at pattern.components name) (at other.components name)
may_overlap pattern other name (Ok text) is = inl (text, is)
may_overlap pattern other name (Err doubt) is = inr (doubt.1, is.1)

-- A doubt about a component is a reason why it is not known whether two patterns overlap.
pub overlap_doubted : (pattern other : PatternParts) (found : Eight (Result (Option (String Global)) (ComponentName × Reason))) (name : ComponentName) (doubt : ComponentName × Reason)
    → AreCommonOrDoubtful pattern other found → at found name ≡ Err doubt → IsOverlapReason pattern other doubt.0 doubt.1
overlap_doubted pattern other found name doubt are e =
    let here = subst (IsCommonOrDoubtful pattern other name) e (are name) in
    record {
      doubt = subst (λ component. IsReasonToPart (at pattern.components component) (at other.components component) doubt.1) (sym here.0) here.1;
      may_overlap = λ another. may_overlap pattern other another (at found another) (are another);
    }
