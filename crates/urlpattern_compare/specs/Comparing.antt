-- How patterns are compared, by the texts that their parts match. Parts *mean* a text if they can
-- match it, one after the other; the *asked* pattern is the one of which it is asked whether
-- another pattern covers it. Only texts without line feed are compared.
use Rattle.std.specs.Prelude.{◌≡◌, ◌⊎◌, ◌&&◌, ℕ, not, All, Bool, true, Option, List, [], ◌∷◌, IsSomeAnd, MatchOption, false, map, take, Some, String}
use Rattle.std.specs.declared.alloc.Global.{Global}
use Rattle.std.specs.List.{slice_get}
use Rattle.urlpattern_compare.specs.Answers.{IsByCase, AreKnown, IsTooMuch}
use Rattle.urlpattern_compare.specs.MeantTexts.{MeansText}
use Rattle.urlpattern_compare.specs.TextSearch.{IsLine}
use Rattle.urlpattern_compare.specs.declared.coverage.Covering.{Covering}
use Rattle.urlpattern_compare.specs.declared.coverage.Covering.TheVariants as coverings
use Rattle.urlpattern_compare.specs.declared.coverage.Overlap.{Overlap}
use Rattle.urlpattern_compare.specs.declared.coverage.Overlap.TheVariants as overlaps
use Rattle.urlpattern_compare.specs.declared.coverage.Reason.{Reason}
use Rattle.urlpattern_compare.specs.declared.coverage.Reason.TheVariants as reasons
use Rattle.urlpattern_syntax.specs.declared.parts.ComponentParts.{ComponentParts}
use Rattle.urlpattern_compare.specs.declared.pattern_parts.Parting.{Parting}
use Rattle.urlpattern_compare.specs.declared.pattern_parts.PatternCovering.{PatternCovering}
use Rattle.urlpattern_compare.specs.declared.pattern_parts.PatternCovering.TheVariants as answers
use Rattle.urlpattern_compare.specs.declared.pattern_parts.PatternOverlap.{PatternOverlap}
use Rattle.urlpattern_compare.specs.declared.pattern_parts.PatternOverlap.TheVariants as commons
use Rattle.urlpattern_compare.specs.declared.pattern_parts.PatternParts.{PatternParts}
use Rattle.urlpattern_components.specs.declared.eight.ComponentName.{ComponentName}
use Rattle.urlpattern_components.specs.Eight.{at}
use Rattle.urlpattern_syntax.specs.Options.{default_options, options_view}
use Rattle.urlpattern_syntax.specs.Parts.{PartView, part_view, parts_view}
use Rattle.urlpattern_syntax.specs.Text.{text_of}
use Rattle.urlpattern_syntax.specs.declared.parser.{Part.Part, PartModifier.PartModifier, PartType.PartType}

-- ---- one component

-- The parts of the component match the text, with case ignored or kept.
abbrev pub MeansIn : ComponentParts → (text : List ℕ) → Type 0
MeansIn component text =
    MeansText (options_view component.options) (parts_view component.parts.items) text

-- Whether a match keeps case where the options ignore it: an engine matches the component that does
-- not honour the flag `i`.
abbrev pub misses_case : ComponentParts → Bool
misses_case component = component.options.ignore_case && not component.honours_case

-- The parts tell which texts the component matches: custom expressions are simple, case is kept if
-- there is one, and a match ignores case if the options do.
pub record IsKnown (component : ComponentParts) : Type 0 where
  pub parts : AreKnown (options_view component.options) (parts_view component.parts.items)
  pub case : misses_case component ≡ false

-- `reason` is why the parts do not tell which texts the component matches, as `IsKnown` says: case
-- is kept, so that an expression is not simple; or case is ignored, and a part is custom, or the
-- engine does not honour the flag `i`.
abbrev pub IsUnknownBy : ComponentParts → Reason → Type 0
IsUnknownBy component reasons.CustomExpression =
    (¬ IsKnown component) × (component.options.ignore_case ≡ false)
IsUnknownBy component reasons.IgnoredCase =
    (¬ IsKnown component) × (component.options.ignore_case ≡ true)
IsUnknownBy component reasons.TooMany = ⊥

-- `reason` is a reason why it is not known whether a text exists that both components match: the
-- parts of one of them do not tell, or those of both tell, and the search among the texts of the
-- first is too much work.
abbrev pub IsReasonToShare : (component other : ComponentParts) → Reason → Type 0
IsReasonToShare component other reasons.TooMany =
    IsKnown component × IsKnown other
    × IsTooMuch (options_view component.options) (parts_view component.parts.items)
    (options_view other.options) (parts_view other.parts.items)
IsReasonToShare component other reason = IsUnknownBy component reason ⊎ IsUnknownBy other reason

-- `reason` is a reason why it is not known whether a text exists that only the asked component
-- matches: the parts of one of the two do not tell, or those of both tell, and the search among the
-- texts of the asked one is too much work.
abbrev pub IsReasonFor : (component asked : ComponentParts) → Reason → Type 0
IsReasonFor component asked = IsReasonToShare asked component

-- A full wildcard without modifier, name, prefix and suffix, which matches each text without line
-- feed.
abbrev pub anything_part : PartView
anything_part = record {
  kind = PartType.FullWildcard;
  value = [];
  modifier = PartModifier.None;
  name = [];
  prefix = [];
  suffix = [];
}

-- `reason` is a reason why no text is known that the component matches: its parts do not tell, or
-- they tell, and the comparison with a full wildcard, which would find such a text, is too much
-- work.
abbrev pub IsReasonAlone : ComponentParts → Reason → Type 0
IsReasonAlone component reasons.TooMany =
    IsKnown component
    × IsTooMuch (options_view component.options) (parts_view component.parts.items) default_options
    (anything_part ∷ [])
IsReasonAlone component reason = IsUnknownBy component reason

-- The component matches each text without line feed, as its parts tell.
pub record MatchesEveryLine (component : ComponentParts) : Type 0 where
  pub known : IsKnown component
  pub takes : (text : List ℕ) → IsLine text → MeansIn component text

-- The component matches no text without line feed, as its parts tell.
pub record MatchesNoLine (component : ComponentParts) : Type 0 where
  pub known : IsKnown component
  pub takes_none : (text : List ℕ) → IsLine text → ¬ MeansIn component text

-- The component matches each text without line feed that the asked one matches, as the parts of
-- both tell.
pub record MeansAllOf (component asked : ComponentParts) : Type 0 where
  pub known : IsKnown component
  pub asked_known : IsKnown asked
  pub within : (text : List ℕ) → IsLine text → MeansIn asked text → MeansIn component text

-- The component matches the text, which has no line feed, as its parts tell.
pub record IsMeantBy (component : ComponentParts) (text : List ℕ) : Type 0 where
  pub known : IsKnown component
  pub means : MeansIn component text
  pub line : IsLine text

-- The asked component matches the text, which has no line feed, and the other component does not.
pub record IsOnlyIn (component asked : ComponentParts) (text : List ℕ) : Type 0 where
  pub known : IsKnown component
  pub meant : IsMeantBy asked text
  pub not_meant : ¬ MeansIn component text

-- No text without line feed exists that both components match, as the parts of both tell.
pub record AreApart (component other : ComponentParts) : Type 0 where
  pub known : IsKnown component
  pub other_known : IsKnown other
  pub apart : (text : List ℕ) → IsLine text → MeansIn component text → ¬ MeansIn other text

-- The view of the part, without the name of its group.
abbrev pub unnamed_view : Part → PartView
unnamed_view part = record (part_view part) { name = [] }

-- The views of the parts, without the names of their groups.
abbrev pub unnamed : List Part → List PartView
unnamed parts = map unnamed_view parts

-- In the component, case is kept or no part is a custom regular expression.
abbrev pub IsCaseKeptOrGenerated : ComponentParts → Type 0
IsCaseKeptOrGenerated component =
    IsByCase (options_view component.options) (parts_view component.parts.items)

-- The two components are equal but for the names of groups, and honour the flag `i` alike. Case is
-- kept, or no part is custom, so that two values that an engine made of one expression return equal
-- captures.
pub record AreSame (component other : ComponentParts) : Type 0 where
  pub options : options_view component.options ≡ options_view other.options
  pub parts : unnamed component.parts.items ≡ unnamed other.parts.items
  pub case : component.honours_case ≡ other.honours_case
  pub kept_or_generated : IsCaseKeptOrGenerated component

-- The component covers the asked one: it matches each text without line feed, or each such text
-- that the asked one matches, or the two are equal but for the names of groups.
abbrev pub IsComponentCovered : (component asked : ComponentParts) → Type 0
IsComponentCovered component asked =
    MatchesEveryLine component ⊎ (MeansAllOf component asked ⊎ AreSame component asked)

-- `reason` is a reason why the component is not known to match each text without line feed: its
-- parts do not tell, or they tell, and the search for a text that only a full wildcard matches is
-- too much work.
abbrev pub IsReasonToMiss : ComponentParts → Reason → Type 0
IsReasonToMiss component reasons.TooMany =
    IsKnown component
    × IsTooMuch default_options (anything_part ∷ []) (options_view component.options)
    (parts_view component.parts.items)
IsReasonToMiss component reason = IsUnknownBy component reason

-- The component does not match some text without line feed, or it is not known to match each.
abbrev pub MayMissLine : ComponentParts → Type 0
MayMissLine component =
    ((text : List ℕ) × IsLine text × ¬ MeansIn component text)
    ⊎ ((reason : Reason) × IsReasonToMiss component reason)

-- `reason` is a reason why it is not known whether the component covers the asked one: the reason
-- is true of the two, they are not equal in the sense of `AreSame`, and the component is not known
-- to match each text.
abbrev pub IsReasonToDoubt : (component asked : ComponentParts) → Reason → Type 0
IsReasonToDoubt component asked reason =
    IsReasonFor component asked reason × (¬ AreSame component asked) × MayMissLine component

-- What each result of `component_covers` says. Covered: the component covers the asked one.
-- NotCovered: only the asked one matches the text. Unknown: `IsReasonToDoubt` holds of the reason.
abbrev pub IsComponentCovering : (component asked : ComponentParts) → Covering → Type 0
IsComponentCovering component asked coverings.Covered = IsComponentCovered component asked
IsComponentCovering component asked (coverings.NotCovered text) =
    IsOnlyIn component asked text.items
IsComponentCovering component asked (coverings.Unknown reason) =
    IsReasonToDoubt component asked reason

-- What each result of `component_overlaps` says. Apart: no text without line feed exists that both
-- match. Common: both match the text. Unknown: `IsReasonToShare` holds of the reason.
abbrev pub IsComponentOverlap : (component other : ComponentParts) → Overlap → Type 0
IsComponentOverlap component other overlaps.Apart = AreApart component other
IsComponentOverlap component other (overlaps.Common text) =
    IsMeantBy component text.items × IsMeantBy other text.items
IsComponentOverlap component other (overlaps.Unknown reason) =
    IsReasonToShare component other reason

-- What each result of `component_example` says. Apart: the component matches no text without line
-- feed. Common: the component matches the text. Unknown: `IsReasonAlone` holds of the reason.
abbrev pub IsExample : ComponentParts → Overlap → Type 0
IsExample component overlaps.Apart = MatchesNoLine component
IsExample component (overlaps.Common text) = IsMeantBy component text.items
IsExample component (overlaps.Unknown reason) = IsReasonAlone component reason

-- ---- eight components

-- The pattern covers the asked one: each component covers the asked pattern's, or the asked pattern
-- has a component that matches no text without line feed.
abbrev pub IsCovered : (pattern asked : PatternParts) → Type 0
IsCovered pattern asked =
    ((name : ComponentName) × MatchesNoLine (at asked.components name))
    ⊎ ((name : ComponentName)
    → IsComponentCovered (at pattern.components name) (at asked.components name))

-- A text that the component matches. `None`: no such text is known, for some reason.
abbrev pub IsExampleText : ComponentParts → Option (String Global) → Type 0
IsExampleText component found =
    MatchOption found ((reason : Reason) × IsReasonAlone component reason) (λ text.
    IsMeantBy component (text_of text))

-- Each component of the asked pattern matches its text of `parting`, where one is known, and the
-- pattern's component that `parting` names does not match its text, which is known.
pub record IsParting (pattern asked : PatternParts) (parting : Parting) : Type 0 where
  pub parted : IsSomeAnd (at parting.texts parting.component) (λ text.
      IsOnlyIn (at pattern.components parting.component) (at asked.components parting.component)
      (text_of text))
  pub examples : (name : ComponentName)
      → IsExampleText (at asked.components name) (at parting.texts name)

-- The component covers the asked one, or whether it does is not known.
abbrev pub MayCover : (component asked : ComponentParts) → Type 0
MayCover component asked =
    IsComponentCovered component asked
    ⊎ ((reason : Reason) × IsReasonToDoubt component asked reason)

-- `reason` is a reason why it is not known whether the pattern covers the asked one: it is not
-- known whether the component `name` covers, and no component decides. Each may cover, and none of
-- the asked pattern is known to match no text.
pub record IsReasonIn (pattern asked : PatternParts) (name : ComponentName) (reason : Reason) :
    Type 0 where
  pub doubt : IsReasonToDoubt (at pattern.components name) (at asked.components name) reason
  pub may_cover : (other : ComponentName)
      → MayCover (at pattern.components other) (at asked.components other)
  pub may_match : (other : ComponentName)
      → (text : Option (String Global)) × IsExampleText (at asked.components other) text

-- What each result of `PatternParts::covers` says. Covered: the pattern covers the asked one.
-- NotCovered: a component does not match a text that the asked pattern's matches. Unknown: the
-- reason is true of the component, and no component decides.
abbrev pub IsPatternCovering : (pattern asked : PatternParts) → PatternCovering → Type 0
IsPatternCovering pattern asked answers.Covered = IsCovered pattern asked
IsPatternCovering pattern asked (answers.NotCovered parting) = IsParting pattern asked parting
IsPatternCovering pattern asked (answers.Unknown name reason) = IsReasonIn pattern asked name reason

-- A text that both components match. `None`: the two are equal, and no text is known that they
-- match, for some reason.
abbrev pub IsCommonText : (component other : ComponentParts) → Option (String Global) → Type 0
IsCommonText component other found =
    MatchOption found
    (AreSame component other × ((reason : Reason) × IsReasonToShare component other reason))
    (λ text. IsMeantBy component (text_of text) × IsMeantBy other (text_of text))

-- `reason` is a reason why it is not known whether a text exists that both components match, which
-- are not equal in the sense of `AreSame`.
abbrev pub IsReasonToPart : (component other : ComponentParts) → Reason → Type 0
IsReasonToPart component other reason =
    IsReasonToShare component other reason × ¬ AreSame component other

-- A text that both components match is known, or the two are equal, or it is not known whether one
-- exists.
abbrev pub MayOverlap : (component other : ComponentParts) → Type 0
MayOverlap component other =
    ((text : Option (String Global)) × IsCommonText component other text)
    ⊎ ((reason : Reason) × IsReasonToPart component other reason)

-- `reason` is a reason why it is not known whether two patterns overlap: it is not known of the
-- component `name`, and no component is known to be apart.
pub record IsOverlapReason (pattern other : PatternParts) (name : ComponentName)
    (reason : Reason) : Type 0 where
  pub doubt : IsReasonToPart (at pattern.components name) (at other.components name) reason
  pub may_overlap : (another : ComponentName)
      → MayOverlap (at pattern.components another) (at other.components another)

-- What each result of `PatternParts::overlaps` says. Apart: of some component, no text without line
-- feed exists that both patterns match. Common: each component has a text that both patterns match,
-- or is equal in both. Unknown: the reason is true of the component, and no component decides.
abbrev pub IsPatternOverlap : (pattern other : PatternParts) → PatternOverlap → Type 0
IsPatternOverlap pattern other commons.Apart =
    (name : ComponentName) × AreApart (at pattern.components name) (at other.components name)
IsPatternOverlap pattern other (commons.Common texts) =
    (name : ComponentName)
    → IsCommonText (at pattern.components name) (at other.components name) (at texts name)
IsPatternOverlap pattern other (commons.Unknown name reason) =
    IsOverlapReason pattern other name reason

-- ---- lists

-- The pattern is not known to cover the asked one: a component does not match a text that the asked
-- pattern's matches, or whether the pattern covers it is not known.
abbrev pub IsNotKnownToCover : (asked pattern : PatternParts) → Type 0
IsNotKnownToCover asked pattern =
    ((parting : Parting) × IsParting pattern asked parting)
    ⊎ ((name : ComponentName) × (reason : Reason) × IsReasonIn pattern asked name reason)

-- What each result of `is_known_to_cover` says. True: the pattern covers the asked one. False: the
-- pattern is not known to.
abbrev pub DecidesCovering : (pattern asked : PatternParts) → Bool → Type 0
DecidesCovering pattern asked true = IsCovered pattern asked
DecidesCovering pattern asked false = IsNotKnownToCover asked pattern

-- The pattern at `index` covers the asked one.
abbrev pub CoversAt : List PatternParts → (asked : PatternParts) → (index : ℕ) → Type 0
CoversAt patterns asked index =
    (pattern : PatternParts) × (slice_get patterns index ≡ Some pattern) × IsCovered pattern asked

-- `found` is the index of the first pattern that is known to cover the asked one. None: no pattern
-- is known to.
abbrev pub IsFirstCovering : List PatternParts → (asked : PatternParts) → Option ℕ → Type 0
IsFirstCovering patterns asked found =
    MatchOption found (All (IsNotKnownToCover asked) patterns) (λ index.
    CoversAt patterns asked index × All (IsNotKnownToCover asked) (take index patterns))
