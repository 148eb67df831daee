-- The URL that `link` writes from the parts of a pattern, so that its groups capture given texts,
-- and the reasons why no such URL exists.
use Rattle.std.specs.Prelude.{◌≡◌, ◌++◌, All, ℕ, Bool, IsTrue, List, ◌∷◌, MatchBool, MatchOption, MatchResult, bytes_eq, Option, Some, None, Result, Ok}
use Rattle.std.specs.List.{list_any}
use Rattle.std.specs.declared.alloc.Global.{Global}
use Rattle.std.specs.declared.borrow.CowStr.{CowStr}
use Rattle.url.specs.Parts.{Parts}
use Rattle.urlpattern_compile.specs.PatternViews.{PatternView, eight_view}
use Rattle.urlpattern_components.specs.declared.eight.ComponentName.{ComponentName}
use Rattle.urlpattern_components.specs.Eight.{IsFirstError, Texts, at, components}
use Rattle.urlpattern_generate.specs.Generating.{FindsRequested, FindsOther}
use Rattle.urlpattern_generate.specs.WriteSettings.{GivenView, text_given}
use Rattle.urlpattern_generate.specs.WrittenTexts.{CannotWrite, IsWritten, cow_text}
use Rattle.urlpattern_generate.specs.declared.generate_error.GenerateError.{GenerateError}
use Rattle.urlpattern_generate.specs.declared.generate_error.GenerateError.TheVariants as generating
use Rattle.urlpattern_init.specs.Inheritance.{texts_of_url}
use Rattle.urlpattern_init.specs.declared.init.UrlPatternMatchInput.TheVariants as inputs
use Rattle.urlpattern_matches.specs.ResultViews.{ResultView}
use Rattle.urlpattern_meaning.specs.PartMeaning.{Captures}
use Rattle.urlpattern_pattern.specs.ComponentTexts.{HasParts, settings_in, parts_in}
use Rattle.urlpattern_pattern.specs.Match.{IsMatch}
use Rattle.urlpattern_pattern.specs.UrlPatterns.{UrlPattern}
use Rattle.urlpattern_compare.specs.declared.pattern_parts.PatternParts.{PatternParts}
use Rattle.urlpattern_generate.specs.UrlsOfTexts.{IsReadOfTexts, RejectsTexts}
use Rattle.urlpattern_generate.specs.declared.no_link.NoLink.{NoLink}
use Rattle.urlpattern_generate.specs.declared.no_link.NoLink.TheVariants.{Component, OutOfMemory}

-- ---- links

-- Each of `texts` is written from the parts of its component with the texts of `groups`.
abbrev pub AreWritten : PatternParts → List GivenView → Texts → Type 0
AreWritten parts groups texts =
    (component : ComponentName)
    → IsWritten (settings_in parts groups component) (parts_in parts component) (at texts component)

-- The matcher of `component` captures in its text what `groups` requests.
abbrev pub IsConfirmed : {E : Type 0} → (answer : E → List ℕ → Option Captures) → PatternView E
    → PatternParts → List GivenView → Texts → ComponentName → Type 0
IsConfirmed answer pattern parts groups texts component =
    FindsRequested answer (pattern component).matcher (settings_in parts groups component)
    (parts_in parts component) (at texts component)

-- The matcher of `component` captures in its text something other than `groups` requests, or does
-- not match the text.
abbrev pub IsOther : {E : Type 0} → (answer : E → List ℕ → Option Captures) → PatternView E
    → PatternParts → List GivenView → Texts → ComponentName → Type 0
IsOther answer pattern parts groups texts component =
    FindsOther answer (pattern component).matcher (settings_in parts groups component)
    (parts_in parts component) (at texts component)

-- `is` is true if the matcher of `component` captures in its text what `groups` requests, and false
-- if the matcher captures other texts or does not match.
abbrev pub DecidesConfirmed : {E : Type 0} → Bool
    → (answer : E → List ℕ → Option Captures) → PatternView E → PatternParts → List GivenView
    → Texts → ComponentName → Type 0
DecidesConfirmed is answer pattern parts groups texts component =
    MatchBool is (IsConfirmed answer pattern parts groups texts component)
    (IsOther answer pattern parts groups texts component)

-- The option is the first component, in the order of the standard, whose matcher does not capture
-- in its text what `groups` requests. None: each matcher does.
abbrev pub IsConfirmedBefore : {E : Type 0} → (answer : E → List ℕ → Option Captures)
    → PatternView E → PatternParts → List GivenView → Texts → Option ComponentName → Type 0
IsConfirmedBefore answer pattern parts groups texts None =
    (component : ComponentName) → IsConfirmed answer pattern parts groups texts component
IsConfirmedBefore answer pattern parts groups texts (Some component) =
    (before after : List ComponentName) × (components ≡ before ++ component ∷ after)
    × All (IsConfirmed answer pattern parts groups texts) before
    × IsOther answer pattern parts groups texts component

-- `url` is the link of a pattern with the parts `parts`: each of its texts is written from the
-- parts with the texts of `groups`, the matchers capture in them what `groups` requests, and the
-- texts, put together, are parsed to `url`.
pub record IsLinkOf {E : Type 0} (answer : E → List ℕ → Option Captures) (pattern : PatternView E)
    (parts : PatternParts) (groups : List GivenView) (url : Parts) : Type 0 where
  pub are_written : AreWritten parts groups (texts_of_url url)
  pub are_confirmed : (component : ComponentName)
      → IsConfirmed answer pattern parts groups (texts_of_url url) component
  pub is_read : IsReadOfTexts (texts_of_url url) url

-- `url` is the link of the pattern for `groups`.
abbrev pub IsLink : {E : Type 0} → (answer : E → List ℕ → Option Captures) → UrlPattern E
    → List GivenView → Parts → Type 0
IsLink answer pattern groups url =
    HasParts pattern (λ parts. IsLinkOf answer (eight_view pattern.components) parts groups url)

-- ---- captures of the link

-- In each match of `url`, the group `name` of `component` captures `capture`.
abbrev pub IsCapturedBy : {E : Type 0} → (answer : E → List ℕ → Option Captures) → PatternView E
    → Parts → ComponentName → (name capture : List ℕ) → Type 0
IsCapturedBy answer pattern url component name capture =
    (result : ComponentName → ResultView) → IsMatch answer pattern (inputs.Url url) result
    → (result component).group name ≡ Some (Some capture)

-- In each match of `url`, each group to which `groups` gives a text captures the canonical form of
-- that text.
abbrev pub ReturnsGiven : {E : Type 0} → (answer : E → List ℕ → Option Captures) → UrlPattern E
    → List GivenView → Parts → Type 0
ReturnsGiven answer pattern groups url = (component : ComponentName) (name text : List ℕ) →
    text_given groups component name ≡ Some text
    → IsTrue
    (list_any (bytes_eq name) (eight_view pattern.components component).group_name_list)
    →
    HasParts pattern (λ parts.
    (value : List ℕ) × ((settings_in parts groups component).canonical text ≡ Ok value)
    × IsCapturedBy answer (eight_view pattern.components) url component name value)

-- ---- errors

-- `result` is the text of `component`, written from its parts with the texts of `groups`, or the
-- reason why it cannot be written.
abbrev pub HasPartsText : PatternParts → List GivenView → ComponentName
    → Result (CowStr Global) GenerateError → Type 0
HasPartsText parts groups component result =
    MatchResult result (λ text.
    IsWritten (settings_in parts groups component) (parts_in parts component) (cow_text text))
    (CannotWrite component (settings_in parts groups component) (parts_in parts component))

-- A URL has the texts that are written from the parts with `groups`, and `component` is the first
-- whose matcher does not capture in its text what `groups` requests.
abbrev pub IsReadOtherwise : {E : Type 0} → (answer : E → List ℕ → Option Captures) → PatternView E
    → PatternParts → List GivenView → ComponentName → Type 0
IsReadOtherwise answer pattern parts groups component =
    (url : Parts) × AreWritten parts groups (texts_of_url url)
    × IsReadOfTexts (texts_of_url url) url
    × IsConfirmedBefore answer pattern parts groups (texts_of_url url) (Some component)

-- `error` says why a pattern with the parts `parts` has no link: the first component without a
-- text, that no URL has the texts, the first component that captures other texts than `groups`
-- requests, or that memory ran out.
abbrev pub RejectsLinkOf : {E : Type 0} → (answer : E → List ℕ → Option Captures) → PatternView E
    → PatternParts → List GivenView → NoLink → Type 0
RejectsLinkOf answer pattern parts groups (Component (generating.ReadOtherwise component)) =
    IsReadOtherwise answer pattern parts groups component
RejectsLinkOf answer pattern parts groups (Component generating.OutOfMemory) = ⊥
RejectsLinkOf answer pattern parts groups (Component error) =
    IsFirstError (HasPartsText parts groups) error
RejectsLinkOf answer pattern parts groups OutOfMemory = Unit {0}
RejectsLinkOf answer pattern parts groups error =
    (texts : Texts) × AreWritten parts groups texts × RejectsTexts texts error

-- `error` says why the pattern has no link: the pattern was put together by hand, or what is wrong
-- with its parts and the groups.
abbrev pub RejectsLink : {E : Type 0} → (answer : E → List ℕ → Option Captures) → UrlPattern E
    → List GivenView → NoLink → Type 0
RejectsLink answer pattern groups error =
    MatchOption pattern.parts (error ≡ Component generating.NoParts) (λ parts.
    RejectsLinkOf answer (eight_view pattern.components) parts groups error)
