-- Whether each pattern of a list is the first that matches some texts.
use Rattle.std.specs.Prelude.{◌≡◌, ℕ, List, [], ◌∷◌, Some, length, slice_get, take}
use Rattle.urlpattern_compare.specs.CommonTexts.{DependsIfUnknown, IsCommonAnswer}
use Rattle.urlpattern_compare.specs.CoveringTogether.{IsLeastCover}
use Rattle.urlpattern_compare.specs.declared.candidates.Limits.{Limits}
use Rattle.urlpattern_compare.specs.declared.common_texts.Common.TheVariants as answers
use Rattle.urlpattern_compare.specs.declared.common_texts.PatternAutomata.{PatternAutomata}
use Rattle.urlpattern_compare.specs.declared.reaching.Reach.{Reach}
use Rattle.urlpattern_compare.specs.declared.reaching.Reach.TheVariants as reaches

-- What each `Reach` of the asked pattern says, after the patterns `earlier`. First: whatever
-- unknown components match, it matches the texts, and no earlier pattern does. Never: the earlier
-- patterns at the indices cover it, and no index can be left out. Unknown: the reason why it is not
-- known whether it matches texts that no earlier pattern does.
abbrev pub IsReach : Limits → (earlier : List PatternAutomata) → (asked : PatternAutomata) → Reach
    → Type 0
IsReach limits earlier asked (reaches.First texts) =
    IsCommonAnswer (asked ∷ []) earlier limits (answers.Texts texts)
IsReach limits earlier asked (reaches.Never by) = IsLeastCover limits earlier asked by.items
IsReach limits earlier asked (reaches.Unknown doubt) =
    IsCommonAnswer (asked ∷ []) earlier limits (answers.Unknown doubt)
    × DependsIfUnknown (asked ∷ []) earlier (answers.Unknown doubt)

-- `found` has one `Reach` for each pattern, in order: after those before it.
pub record AreReached (limits : Limits) (patterns : List PatternAutomata) (found : List Reach) :
    Type 0 where
  pub count : length found ≡ length patterns
  pub each : (index : ℕ) (asked : PatternAutomata) → slice_get patterns index ≡ Some asked
      → (reach : Reach) × (slice_get found index ≡ Some reach)
      × IsReach limits (take index patterns) asked reach
