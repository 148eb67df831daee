-- Laws of common texts: that meanings exist, and how much work a question takes at most.
use Rattle.std.specs.Prelude.{◌≢◌, ◌⊎◌, ◌++◌, ◌^◌, ◌≤◌, ℕ, All, Contains, List, length}
use Rattle.std.specs.List.{sum_by}
use Rattle.urlpattern_compare.specs.CommonTexts.{AreAutomata, AreMeanings, IsDoubt, IsLack, PatternMeaning, SomeMayHaveManyStates, parts_of}
use Rattle.urlpattern_compare.specs.Comparing.{IsKnown, MeansIn}
use Rattle.urlpattern_compare.specs.TextSearch.{IsLine}
use Rattle.urlpattern_compare.specs.WorkBounds.{component_size}
use Rattle.urlpattern_compare.specs.declared.candidates.Limits.{Limits}
use Rattle.urlpattern_compare.specs.declared.candidates.TheConstants.{USUAL_LIMITS}
use Rattle.urlpattern_compare.specs.declared.common_texts.Doubt.TheVariants as doubts
use Rattle.urlpattern_compare.specs.declared.common_texts.Lack.{Lack}
use Rattle.urlpattern_compare.specs.declared.common_texts.PatternAutomata.{PatternAutomata}
use Rattle.urlpattern_compare.specs.declared.coverage.Reason.TheVariants as reasons
use Rattle.urlpattern_compare.specs.declared.parts_automaton.TheConstants.{MOST_STATES}
use Rattle.urlpattern_components.specs.declared.eight.ComponentName.{ComponentName}
use Rattle.urlpattern_components.specs.Eight.{at}
use Rattle.urlpattern_meaning.specs.PartMeaning.{AreGenerated}
use Rattle.urlpattern_syntax.specs.Parts.{parts_view}
use Rattle.urlpattern_syntax.specs.declared.parts.ComponentParts.{ComponentParts}

-- Some meanings exist of any patterns, unless a component may need too many states.
abbrev pub MeaningsExist : Type 0
MeaningsExist =
    (all_of none_of : List PatternAutomata) → All AreAutomata all_of → All AreAutomata none_of
    → ((all none : List PatternMeaning)
    × AreMeanings (parts_of all_of) (parts_of none_of) all none)
    ⊎ SomeMayHaveManyStates (all_of ++ none_of)

-- The size of the component in all of the patterns.
abbrev pub joint_size : List PatternAutomata → ComponentName → ℕ
joint_size patterns name = sum_by (λ it. component_size (at it.parts.components name)) patterns

-- No part of the component is custom.
abbrev pub HasNoCustomPart : ComponentParts → Type 0
HasNoCustomPart component = AreGenerated (parts_view component.parts.items)

-- No part of the component is custom, and its size is at most `MOST_STATES`.
pub record IsSmall (component : ComponentParts) : Type 0 where
  pub generated : HasNoCustomPart component
  pub small : component_size component ≤ MOST_STATES

-- A component without custom parts does not need too many states if its size is at most
-- `MOST_STATES`.
abbrev pub SmallHaveAutomata : Type 0
SmallHaveAutomata =
    (patterns : List PatternAutomata) (lack : Lack)
    → All (λ it. IsSmall (at it.parts.components lack.component)) patterns
    → IsLack patterns lack → lack.reason ≢ reasons.TooMany

-- A component without custom parts does not need too many sets of states if 2 to the power of its
-- size in all of the patterns is at most `limits.sets`.
abbrev pub SmallNeedFewSets : Type 0
SmallNeedFewSets =
    (all_of none_of : List PatternAutomata) (limits : Limits) (name : ComponentName)
    → All AreAutomata (all_of ++ none_of)
    → All (λ it. HasNoCustomPart (at it.parts.components name)) (all_of ++ none_of)
    → 2 ^ joint_size (all_of ++ none_of) name ≤ limits.sets
    → ¬ IsDoubt all_of none_of limits (doubts.TooManySets name)

-- If its parts tell what the component matches, it matches any text without line feeds, as `*`
-- does.
abbrev pub MatchesAnything : ComponentParts → Type 0
MatchesAnything component =
    IsKnown component
    → (text : List ℕ) → IsLine text → MeansIn component text

-- Each component of the pattern is among `counted`, or matches anything.
abbrev pub AreCounted : (counted : List ComponentName) → PatternAutomata → Type 0
AreCounted counted it =
    (name : ComponentName)
    → Contains counted name ⊎ MatchesAnything (at it.parts.components name)

-- Not too many texts have to be tried if 2 to the power of the number of components of `none_of` is
-- at most `limits.texts`, where components that match anything need not be counted.
abbrev pub FewNeedFewTexts : Type 0
FewNeedFewTexts =
    (all_of none_of : List PatternAutomata) (limits : Limits)
    (counted : PatternAutomata → List ComponentName)
    → All AreAutomata none_of
    → All (λ it. AreCounted (counted it) it) none_of
    → 2 ^ sum_by (λ it. length (counted it)) none_of ≤ limits.texts
    → ¬ IsDoubt all_of none_of limits doubts.TooManyTexts

-- The usual limits allow a component 2 to the power of 13 sets of states, and eight texts to be
-- tried 2 to the power of 9 times.
abbrev pub UsualAreWide : Type 0
UsualAreWide = (2 ^ 13 ≤ USUAL_LIMITS.sets) × (2 ^ 9 ≤ USUAL_LIMITS.texts)
