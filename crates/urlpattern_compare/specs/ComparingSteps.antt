-- The steps of comparing two patterns.
use Rattle.std.specs.Prelude.{◌≡◌, ℕ, Bool, true, false, List, Ok, Err, Option, Result, Some, String, option_map}
use Rattle.std.specs.declared.alloc.Global.{Global}
use Rattle.urlpattern_compare.specs.Comparing.{AreApart, IsCommonText, IsComponentCovered, IsExampleText, IsMeantBy, IsOnlyIn, IsReasonFor, IsReasonToDoubt, IsReasonToPart, MatchesEveryLine, MatchesNoLine, MayCover, MayMissLine, MeansAllOf}
use Rattle.urlpattern_compare.specs.declared.coverage.Covering.{Covering}
use Rattle.urlpattern_compare.specs.declared.coverage.Covering.TheVariants as coverings
use Rattle.urlpattern_compare.specs.declared.coverage.Reason.{Reason}
use Rattle.urlpattern_compare.specs.declared.first_uncovered.FirstUncovered.{FirstUncovered}
use Rattle.urlpattern_compare.specs.declared.first_uncovered.FirstUncovered.TheVariants as firsts
use Rattle.urlpattern_compare.specs.declared.pattern_parts.NoText.{NoText}
use Rattle.urlpattern_compare.specs.declared.pattern_parts.NoText.TheVariants as lacking
use Rattle.urlpattern_compare.specs.declared.pattern_parts.PatternParts.{PatternParts}
use Rattle.urlpattern_components.specs.declared.eight.ComponentName.{ComponentName}
use Rattle.urlpattern_components.specs.declared.eight.Eight.{Eight}
use Rattle.urlpattern_components.specs.Eight.{at}
use Rattle.urlpattern_syntax.specs.Text.{text_of}
use Rattle.urlpattern_syntax.specs.declared.parts.ComponentParts.{ComponentParts}

-- ---- one component

-- What each result of `matches_every_line` says. True: the component matches each text without line
-- feed. False: it does not match one, or it is not known to.
abbrev pub DecidesEveryLine : ComponentParts → Bool → Type 0
DecidesEveryLine component true = MatchesEveryLine component
DecidesEveryLine component false = MayMissLine component

-- What each result of `covers_by_meaning` says. Covered: the component matches each text without
-- line feed that the asked one matches. NotCovered: only the asked one matches the text. Unknown:
-- the reason is true of the two.
abbrev pub IsCoveringByMeaning : (component asked : ComponentParts) → Covering → Type 0
IsCoveringByMeaning component asked coverings.Covered = MeansAllOf component asked
IsCoveringByMeaning component asked (coverings.NotCovered text) =
    IsOnlyIn component asked text.items
IsCoveringByMeaning component asked (coverings.Unknown reason) = IsReasonFor component asked reason

-- ---- eight components

-- What each result of `first_uncovered` says. Nowhere: each component covers. At: the component
-- does not cover, by this text. Unknown: whether the component covers is not known, and each may.
-- Whether the component is the first is left open.
abbrev pub IsFirstUncovered : (pattern asked : PatternParts) → FirstUncovered → Type 0
IsFirstUncovered pattern asked firsts.Nowhere =
    (name : ComponentName)
    → IsComponentCovered (at pattern.components name) (at asked.components name)
IsFirstUncovered pattern asked (firsts.At name text) =
    IsOnlyIn (at pattern.components name) (at asked.components name) text.items
IsFirstUncovered pattern asked (firsts.Unknown name reason) =
    IsReasonToDoubt (at pattern.components name) (at asked.components name) reason
    × ((other : ComponentName)
    → MayCover (at pattern.components other) (at asked.components other))

-- What each `NoText` says. `Empty` holds of a component of which no text exists.
abbrev pub IsNoText : (Empty : ComponentName → Type 0) → NoText → Type 0
IsNoText Empty lacking.OutOfMemory = Unit {0}
IsNoText Empty (lacking.Nothing name) = Empty name

-- What each `NoText` says of the asked pattern: a component matches no text.
abbrev pub LacksExample : (asked : PatternParts) → NoText → Type 0
LacksExample asked = IsNoText (λ name. MatchesNoLine (at asked.components name))

-- What was found so far, with the next component, `name`, added. The first component that does not
-- cover is kept; without one, the last of which nothing is known.
abbrev pub first_or : FirstUncovered → (name : ComponentName) → Covering → FirstUncovered
first_or (firsts.At earlier text) name covering = firsts.At earlier text
first_or firsts.Nowhere name coverings.Covered = firsts.Nowhere
first_or firsts.Nowhere name (coverings.NotCovered text) = firsts.At name text
first_or firsts.Nowhere name (coverings.Unknown reason) = firsts.Unknown name reason
first_or (firsts.Unknown earlier why) name coverings.Covered = firsts.Unknown earlier why
first_or (firsts.Unknown earlier why) name (coverings.NotCovered text) = firsts.At name text
first_or (firsts.Unknown earlier why) name (coverings.Unknown reason) = firsts.Unknown name reason

-- What the result of `example` says. Ok: a text that the component `name` of the asked pattern
-- matches, if one is known. An error: a component matches no text, or memory ran out.
abbrev pub IsExampleIn : (asked : PatternParts) → ComponentName
    → Result (Option (String Global)) NoText → Type 0
IsExampleIn asked name (Ok found) = IsExampleText (at asked.components name) found
IsExampleIn asked name (Err lack) = LacksExample asked lack

-- What the result of `text_with` says. Ok: a text that the component `name` of the asked pattern
-- matches, if one is known, provided that the component `uncovered` matches `text`; for `uncovered`
-- itself, the text is `text`. An error: a component matches no text, or memory ran out.
abbrev pub IsTextWith : (asked : PatternParts) → (uncovered : ComponentName)
    → (text : List ℕ) → ComponentName → Result (Option (String Global)) NoText → Type 0
IsTextWith asked uncovered text name (Ok found) =
    (IsMeantBy (at asked.components uncovered) text
    → IsExampleText (at asked.components name) found)
    × (name ≡ uncovered → option_map text_of found ≡ Some text)
IsTextWith asked uncovered text name (Err lack) = LacksExample asked lack

-- Of the component `name` of two patterns: a text that both match, if one is known, or the
-- component and the reason why it is not known whether one exists.
abbrev pub IsCommonOrDoubtful : (pattern other : PatternParts) → ComponentName
    → Result (Option (String Global)) (ComponentName × Reason) → Type 0
IsCommonOrDoubtful pattern other name (Ok found) =
    IsCommonText (at pattern.components name) (at other.components name) found
IsCommonOrDoubtful pattern other name (Err doubt) =
    (doubt.0 ≡ name)
    × IsReasonToPart (at pattern.components name) (at other.components name) doubt.1

-- What the result of `common_text` says. Ok: a text that the component `name` of both patterns
-- matches, or why it is not known whether one exists. An error: no such text exists, or memory ran
-- out.
abbrev pub IsCommonIn : (pattern other : PatternParts) → ComponentName
    → Result (Result (Option (String Global)) (ComponentName × Reason)) NoText → Type 0
IsCommonIn pattern other name (Ok found) = IsCommonOrDoubtful pattern other name found
IsCommonIn pattern other name (Err lack) =
    IsNoText (λ other_name.
    AreApart (at pattern.components other_name) (at other.components other_name)) lack

-- `IsCommonOrDoubtful`, of each component.
abbrev pub AreCommonOrDoubtful : (pattern other : PatternParts)
    → Eight (Result (Option (String Global)) (ComponentName × Reason)) → Type 0
AreCommonOrDoubtful pattern other found =
    (name : ComponentName) → IsCommonOrDoubtful pattern other name (at found name)
