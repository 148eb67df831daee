-- Statements of the laws of links of a match: the groups of the match, and the texts of the link.
-- `answer` is what a value of an engine returns for a text.
use Rattle.std.specs.Prelude.{◌≡◌, ◌≢◌, ℕ, false, AllPairs, List, Option, Some, map}
use Rattle.std.specs.{Borrow.Bor, Map.keys_of}
use Rattle.url.specs.{Parser.Parsed, Parts.Parts}
use Rattle.urlpattern_matcher.specs.Components.{ComponentView}
use Rattle.urlpattern_compile.specs.Compiled.{AreCompiled}
use Rattle.urlpattern_matcher.specs.declared.regexp.RegExp.{Ghosts as Engine}
use Rattle.urlpattern_generate.specs.WriteSettings.{GivenView, WriteSettings, given_groups, text_given}
use Rattle.urlpattern_meaning.specs.PartMeaning.{AreGenerated}
use Rattle.urlpattern_init.specs.Inheritance.{texts_of_url}
use Rattle.urlpattern_init.specs.UrlTexts.{IsLine}
use Rattle.urlpattern_init.specs.declared.init.UrlPatternInit.{UrlPatternInit}
use Rattle.urlpattern_inputs.specs.declared.options.UrlPatternOptions.{UrlPatternOptions}
use Rattle.urlpattern_laws.specs.LinkLaws.{AreCanonical, OfItsParts}
use Rattle.urlpattern_generate.specs.LawsOfLinks.{HavePlainTexts}
use Rattle.urlpattern_matches.specs.BorrowedMatches.{HasDistinctGroups, all_groups_view, all_listed_groups, groups_view, borrowed_group, pattern_captures_view, texts_captured}
use Rattle.urlpattern_matches.specs.ResultViews.{ResultView, captured_text, result_view}
use Rattle.urlpattern_matches.specs.declared.captures.UrlPatternCaptures.{UrlPatternCaptures}
use Rattle.urlpattern_matches.specs.declared.result.UrlPatternResult.{UrlPatternResult}
use Rattle.urlpattern_meaning.specs.Matching.{Returns}
use Rattle.urlpattern_meaning.specs.PartMeaning.{Captures, PartsMean}
use Rattle.urlpattern_pattern.specs.ComponentTexts.{settings_in}
use Rattle.urlpattern_pattern.specs.KeptParts.{KeepsPartsOf}
use Rattle.urlpattern_pattern.specs.LinkedUrls.{IsLink}
use Rattle.urlpattern_pattern.specs.Match.{AreGroupsInOrder, IsMatchOf}
use Rattle.urlpattern_pattern.specs.Patterns.{PatternView, pattern_view}
use Rattle.urlpattern_pattern.specs.UrlPatterns.{UrlPattern}
use Rattle.urlpattern_components.specs.declared.eight.ComponentName.{ComponentName}
use Rattle.urlpattern_components.specs.Eight.{Texts, Values, at, components}
use Rattle.urlpattern_syntax.specs.{ComponentParts.kept_options, ComponentParts.kept_parts, Parts.PartView, RegexpText.group_names}
use Rattle.urlpattern_syntax.specs.declared.parts.ComponentParts.{ComponentParts}

-- ---- the groups of a match

-- A group that is passed to a link: its component, its name and its text.
abbrev pub BorrowedGroup : Type 0
BorrowedGroup = ComponentName × Bor (List ℕ) × Bor (List ℕ)

-- `groups` have, for each group of the result that captured a text, that text, and no text for any
-- other name.
abbrev pub AreGroupsOfResult : (result : ComponentName → ResultView) → List GivenView → Type 0
AreGroupsOfResult result groups =
    (component : ComponentName) (name : List ℕ)
    → text_given groups component name ≡ captured_text (result component) name

-- No two names are equal.
abbrev pub NamesDiffer : List (List ℕ) → Type 0
NamesDiffer names = AllPairs (λ name other. name ≢ other) names

-- The groups that `to_groups` of captures returns are as `AreGroupsOfResult` says: each has its
-- captured text. Premise: no two groups of a component have the same name.
abbrev pub GroupsOfCapturesAreGiven : Type 0
GroupsOfCapturesAreGiven = (found : UrlPatternCaptures) (groups : List BorrowedGroup) →
    map borrowed_group groups ≡ texts_captured (all_groups_view found components) →
    ((component : ComponentName) → NamesDiffer (keys_of (groups_view found component))) →
    AreGroupsOfResult (pattern_captures_view found) (given_groups groups)

-- The groups that `to_groups` of a result returns are as `AreGroupsOfResult` says: each has its
-- captured text. Premise: no two groups of a component have the same name, as `to_groups` of a
-- result promises.
abbrev pub GroupsOfResultsAreGiven : Type 0
GroupsOfResultsAreGiven = (result : UrlPatternResult) (groups : List BorrowedGroup) →
    map borrowed_group groups ≡ texts_captured (all_listed_groups result components) →
    ((component : ComponentName) → HasDistinctGroups result component) →
    AreGroupsOfResult (result_view result) (given_groups groups)

-- In a match by a compiled pattern, no two groups of a component have the same name.
abbrev pub GroupsOfMatchesDiffer : {E : Type 0} → Engine E → Type 0
GroupsOfMatchesDiffer {E} engine =
    (asked : UrlPatternOptions) (values : Values) (pattern : PatternView E) (texts : Texts)
    (found : UrlPatternCaptures)
    →
    AreCompiled engine asked values pattern
    → AreGroupsInOrder engine.answer pattern texts (groups_view found)
    →
    (component : ComponentName) → NamesDiffer (keys_of (groups_view found component))

-- ---- links

-- The premises for a component's text to be written back from its groups: no fixed text of the
-- parts has a modifier; if the matcher returns the captures for the text, the parts mean the text
-- with them; the component's names are those of the parts and differ; and each captured text is its
-- own canonical form.
pub record IsWritableFromMatch {E : Type 0} (answer : E → List ℕ → Option Captures)
    (compiled : ComponentView E) (settings : WriteSettings) (parts : List PartView) (text : List ℕ)
    (captures : Captures) : Type 0 where
  pub plain : HavePlainTexts parts
  pub means : Returns answer compiled.matcher text (Some captures)
      → PartsMean settings.options parts text captures
  pub has_names : compiled.group_name_list ≡ group_names parts
  pub names_differ : NamesDiffer (group_names parts)
  pub are_canonical : AreCanonical settings.canonical captures

-- `IsWritableFromMatch` holds of a component of the pattern, with the text, the captures and the
-- groups of a link.
abbrev pub TextIsWritableFromMatch : {E : Type 0} → (answer : E → List ℕ → Option Captures)
    → UrlPattern E
    → List GivenView → ComponentName → (text : List ℕ) → Captures → Type 0
TextIsWritableFromMatch answer pattern groups component text captures =
    OfItsParts pattern groups component (λ settings parts.
    IsWritableFromMatch answer (pattern_view pattern component) settings parts text captures)

-- A link with the groups of a match of eight texts has these texts, if `TextIsWritableFromMatch`
-- holds of each component.
abbrev pub LinksOfMatchesAreTheTexts : {E : Type 0} → (answer : E → List ℕ → Option Captures)
    → Type 0
LinksOfMatchesAreTheTexts {E} answer =
    (pattern : UrlPattern E) (groups : List GivenView) (url : Parts) (texts : Texts)
    (result : ComponentName → ResultView)
    →
    IsLink answer pattern groups url
    → (found : IsMatchOf answer (pattern_view pattern) texts result)
    → AreGroupsOfResult result groups
    →
    ((component : ComponentName)
    → TextIsWritableFromMatch answer pattern groups component (at texts component)
    (found.captures component))
    →
    texts_of_url url ≡ texts

-- ---- links of compiled patterns

-- The premises for a component of a compiled pattern: no part is custom, case is kept, no fixed
-- text of the parts has a modifier, the text is a line, and each captured text is its own canonical
-- form.
pub record IsWritableFromParts (component : ComponentParts)
    (canonical : List ℕ → Parsed (List ℕ)) (text : List ℕ) (captures : Captures) : Type 0 where
  pub generated : AreGenerated (kept_parts component)
  pub case_kept : (kept_options component).ignore_case ≡ false
  pub plain : HavePlainTexts (kept_parts component)
  pub line : IsLine text
  pub are_canonical : AreCanonical canonical captures

-- A link with the groups of a match of eight texts by a compiled pattern has these texts, if
-- `IsWritableFromParts` holds of each component.
abbrev pub LinksOfCompiledMatchesAreTheTexts : {E : Type 0} → Engine E → Type 0
LinksOfCompiledMatchesAreTheTexts {E} engine =
    (init : UrlPatternInit) (asked : UrlPatternOptions) (pattern : UrlPattern E)
    (kept : KeepsPartsOf engine init asked pattern)
    (groups : List GivenView) (url : Parts) (texts : Texts) (result : ComponentName → ResultView)
    →
    IsLink engine.answer pattern groups url
    → (found : IsMatchOf engine.answer (pattern_view pattern) texts result)
    → AreGroupsOfResult result groups
    →
    ((component : ComponentName)
    → IsWritableFromParts (at kept.parts.components component)
    (settings_in kept.parts groups component).canonical (at texts component)
    (found.captures component))
    →
    texts_of_url url ≡ texts
