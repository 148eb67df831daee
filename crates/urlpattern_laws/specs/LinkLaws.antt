-- Statements of the laws of links. `answer` is what a value of an engine returns for a text.
use Rattle.std.specs.Prelude.{◌≡◌, ◌≢◌, ℕ, All, IfSome, List, Option, Some, map}
use Rattle.url.specs.Parser.{Parsed}
use Rattle.url.specs.Parts.{Parts}
use Rattle.urlpattern_components.specs.declared.eight.ComponentName.{ComponentName}
use Rattle.urlpattern_components.specs.Eight.{Texts, at}
use Rattle.urlpattern_generate.specs.Requested.{AreRequested}
use Rattle.urlpattern_generate.specs.Generating.{IsCanonical}
use Rattle.urlpattern_generate.specs.WriteSettings.{GivenView, WriteSettings}
use Rattle.urlpattern_init.specs.Inheritance.{texts_of_url}
use Rattle.urlpattern_generate.specs.LawsOfLinks.{HavePlainTexts}
use Rattle.urlpattern_meaning.specs.Matching.{Returns, MatcherView}
use Rattle.urlpattern_meaning.specs.PartMeaning.{Captures, PartsMean}
use Rattle.urlpattern_pattern.specs.ComponentTexts.{settings_in, parts_in}
use Rattle.urlpattern_pattern.specs.LinkedUrls.{IsLink}
use Rattle.urlpattern_pattern.specs.Match.{AreResults}
use Rattle.urlpattern_pattern.specs.Patterns.{pattern_view}
use Rattle.urlpattern_pattern.specs.UrlPatterns.{UrlPattern}
use Rattle.urlpattern_compare.specs.declared.pattern_parts.PatternParts.{PatternParts}
use Rattle.urlpattern_syntax.specs.{Parts.PartView, RegexpText.group_names}

-- If the pattern keeps parts, `Is` holds of the settings with which a component's text is written
-- for the groups, and of the component's parts.
abbrev pub OfItsParts : {E : Type 0} → UrlPattern E → List GivenView → ComponentName
    → (Is : WriteSettings → List PartView → Type 0) → Type 0
OfItsParts pattern groups component Is =
    (parts : PatternParts) → pattern.parts ≡ Some parts
    → Is (settings_in parts groups component) (parts_in parts component)

-- ---- links with different groups

-- `captures` are what the groups of a component are to capture in a link with these groups, if the
-- pattern keeps parts.
abbrev pub AreToCapture : {E : Type 0} → UrlPattern E → List GivenView → ComponentName → Captures
    → Type 0
AreToCapture pattern groups component captures =
    OfItsParts pattern groups component (λ settings parts. AreRequested settings parts captures)

-- Two links of a pattern whose groups are to capture different texts of a component have different
-- texts there.
abbrev pub LinksDiffer : {E : Type 0} → (answer : E → List ℕ → Option Captures) → Type 0
LinksDiffer {E} answer =
    (pattern : UrlPattern E) (groups others : List GivenView) (url other : Parts)
    (component : ComponentName) (captures different : Captures)
    →
    IsLink answer pattern groups url → IsLink answer pattern others other →
    AreToCapture pattern groups component captures
    → AreToCapture pattern others component different
    →
    captures ≢ different → at (texts_of_url url) component ≢ at (texts_of_url other) component

-- Any two links with the same groups are equal.
abbrev pub LinksAreOne : {E : Type 0} → (answer : E → List ℕ → Option Captures) → Type 0
LinksAreOne {E} answer = (pattern : UrlPattern E) (groups : List GivenView) (url other : Parts) →
    IsLink answer pattern groups url → IsLink answer pattern groups other → url ≡ other

-- ---- links with captures

-- The capture is its own canonical form, or `None`.
abbrev pub IsCanonicalCapture : (canonical : List ℕ → Parsed (List ℕ)) → Option (List ℕ) → Type 0
IsCanonicalCapture canonical capture = IfSome capture (IsCanonical canonical)

-- Each of the captures is its own canonical form, or `None`.
abbrev pub AreCanonical : (canonical : List ℕ → Parsed (List ℕ)) → Captures → Type 0
AreCanonical canonical captures = All (IsCanonicalCapture canonical) captures

-- The premises for a component's text to be written back from its captures: no fixed text of the
-- parts has a modifier; if the matcher returns the captures for the text, the parts mean the text
-- with them; the values given for the groups are the captures; and each captured text is its own
-- canonical form.
pub record IsWritableFromCaptures {E : Type 0} (answer : E → List ℕ → Option Captures)
    (matcher : MatcherView E) (settings : WriteSettings) (parts : List PartView) (text : List ℕ)
    (captures : Captures) : Type 0 where
  pub plain : HavePlainTexts parts
  pub means : Returns answer matcher text (Some captures)
      → PartsMean settings.options parts text captures
  pub are_given : map settings.given (group_names parts) ≡ captures
  pub are_canonical : AreCanonical settings.canonical captures

-- `IsWritableFromCaptures` holds of a component of the pattern, with the text, the captures and the
-- groups of a link.
abbrev pub TextIsWritableFromCaptures : {E : Type 0} → (answer : E → List ℕ → Option Captures)
    → UrlPattern E
    → List GivenView → ComponentName → (text : List ℕ) → Captures → Type 0
TextIsWritableFromCaptures answer pattern groups component text captures =
    OfItsParts pattern groups component (λ settings parts.
    IsWritableFromCaptures answer (pattern_view pattern component).matcher settings parts text
    captures)

-- A link whose groups are the captures of eight texts has these texts, if
-- `TextIsWritableFromCaptures` holds of each component.
abbrev pub LinksOfCapturesAreTheTexts : {E : Type 0} → (answer : E → List ℕ → Option Captures)
    → Type 0
LinksOfCapturesAreTheTexts {E} answer =
    (pattern : UrlPattern E) (groups : List GivenView) (url : Parts) (texts : Texts)
    (captures : ComponentName → Captures)
    →
    IsLink answer pattern groups url → AreResults answer (pattern_view pattern) texts captures →
    ((component : ComponentName)
    → TextIsWritableFromCaptures answer pattern groups component (at texts component)
    (captures component))
    →
    texts_of_url url ≡ texts
