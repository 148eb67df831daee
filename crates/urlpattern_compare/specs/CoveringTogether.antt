-- Patterns that cover another one, the asked one, together.
use Rattle.std.specs.Prelude.{◌≢◌, ◌<◌, ◌≤◌, ℕ, zero, suc, All, Bool, true, false, List, [], ◌∷◌, ◌++◌, length, slice_get, take}
use Rattle.std.specs.List.{flat_map}
use Rattle.std.specs.Option.{option_to_list}
use Rattle.urlpattern_compare.specs.Candidates.{TextAt}
use Rattle.urlpattern_compare.specs.CommonTexts.{AreCommon, AreMeanings, DependsIfUnknown, IsCommonAnswer, PatternMeaning, parts_of}
use Rattle.urlpattern_compare.specs.declared.candidates.Limits.{Limits}
use Rattle.urlpattern_compare.specs.declared.common_texts.Common.{Common}
use Rattle.urlpattern_compare.specs.declared.common_texts.Common.TheVariants as answers
use Rattle.urlpattern_compare.specs.declared.common_texts.PatternAutomata.{PatternAutomata}

-- The patterns cover the asked one together: whatever unknown components match, no eight texts are
-- matched by the asked one, and by none of them.
abbrev pub AreCovering : List PatternAutomata → (asked : PatternAutomata) → Type 0
AreCovering patterns asked =
    (all none : List PatternMeaning)
    → AreMeanings (parts_of (asked ∷ [])) (parts_of patterns) all none
    → (texts : TextAt) → ¬ AreCommon all none texts

-- The patterns are not known to cover the asked one: `find_common` returns texts that it matches,
-- and none of them, or a doubt.
abbrev pub MayNotCover : Limits → List PatternAutomata → (asked : PatternAutomata) → Type 0
MayNotCover limits patterns asked =
    (answer : Common) × (answer ≢ answers.Nothing)
    × IsCommonAnswer (asked ∷ []) patterns limits answer
    × DependsIfUnknown (asked ∷ []) patterns answer

-- What each result of `are_covering` says.
abbrev pub DecidesTogether : Limits → List PatternAutomata → (asked : PatternAutomata) → Bool
    → Type 0
DecidesTogether limits patterns asked true = AreCovering patterns asked
DecidesTogether limits patterns asked false = MayNotCover limits patterns asked

-- The values at the indices, where there are some.
abbrev pub at_each : {X : Type 0} → List X → List ℕ → List X
at_each xs indices = flat_map (λ index. option_to_list (slice_get xs index)) indices

-- The indices ascend.
abbrev pub AreAscending : List ℕ → Type 0
AreAscending [] = Unit {0}
AreAscending (index ∷ others) = All (λ other. index < other) others × AreAscending others

-- None of the indices can be left out: without it, the patterns at the later indices and all that
-- are before it are not known to cover the asked one.
abbrev pub AreNeeded : Limits → List PatternAutomata → (asked : PatternAutomata) → List ℕ → Type 0
AreNeeded limits patterns asked [] = Unit {0}
AreNeeded limits patterns asked (index ∷ later) =
    MayNotCover limits (take index patterns ++ at_each patterns later) asked
    × AreNeeded limits patterns asked later

-- The patterns at the indices `by`, which ascend, cover the asked one, and no index can be left
-- out.
pub record IsLeastCover (limits : Limits) (patterns : List PatternAutomata)
    (asked : PatternAutomata) (by : List ℕ) : Type 0 where
  pub within : All (λ index. index < length patterns) by
  pub ascending : AreAscending by
  pub cover : AreCovering (at_each patterns by) asked
  pub needed : AreNeeded limits patterns asked by

-- ---- steps

-- The index of the last of so many patterns. 0 if there is none.
abbrev pub before_last : (count : ℕ) → ℕ
before_last zero = 0
before_last (suc index) = index

-- The indices, after that of the last of `count` patterns, if there is one.
abbrev pub with_last : (count : ℕ) → (by : List ℕ) → List ℕ
with_last zero by = by
with_last (suc index) by = index ∷ by

-- The first `count` patterns but the last of them, together with those at the indices `by`, are not
-- known to cover the asked one.
abbrev pub NeedsLast : Limits → List PatternAutomata → (asked : PatternAutomata) → (by : List ℕ)
    → (count : ℕ) → Type 0
NeedsLast limits patterns asked by zero = Unit {0}
NeedsLast limits patterns asked by (suc index) =
    MayNotCover limits (take index patterns ++ at_each patterns by) asked

-- The first `count` patterns, which are at most `end`, cover the asked one together with those at
-- the indices `by`, and one pattern fewer are not known to.
pub record IsFewest (limits : Limits) (patterns : List PatternAutomata) (asked : PatternAutomata)
    (by : List ℕ) (end count : ℕ) : Type 0 where
  pub within : count ≤ end
  pub cover : AreCovering (take count patterns ++ at_each patterns by) asked
  pub needed : NeedsLast limits patterns asked by count
