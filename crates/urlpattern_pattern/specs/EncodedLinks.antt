-- The link of a pattern for values that are percent-encoded first, and the reasons why there is
-- none.
use Rattle.std.specs.Prelude.{◌≡◌, ◌⊎◌, ◌++◌, ◌∷◌, ℕ, All, IsTrue, List, None, Option, Some, bytes_eq}
use Rattle.std.specs.{Borrow.Bor, List.list_any, Str.chars}
use Rattle.url.specs.Parts.{Parts}
use Rattle.urlpattern_compare.specs.declared.pattern_parts.PatternParts.{PatternParts}
use Rattle.urlpattern_compile.specs.PatternViews.{PatternView, eight_view}
use Rattle.urlpattern_components.specs.Eight.{components}
use Rattle.urlpattern_components.specs.declared.eight.ComponentName.{ComponentName}
use Rattle.urlpattern_generate.specs.EncodedGroups.{IsChanged}
use Rattle.urlpattern_generate.specs.WriteSettings.{GivenView, text_given}
use Rattle.urlpattern_generate.specs.declared.generate_error.GenerateError.TheVariants.{NotCaptured}
use Rattle.urlpattern_generate.specs.declared.no_link.NoLink.{NoLink}
use Rattle.urlpattern_generate.specs.declared.no_link.NoLink.TheVariants.{Component, OutOfMemory}
use Rattle.urlpattern_meaning.specs.PartMeaning.{Captures}
use Rattle.urlpattern_pattern.specs.ComponentTexts.{HasParts, settings_in}
use Rattle.urlpattern_pattern.specs.LinkedUrls.{IsCapturedBy, RejectsLink}
use Rattle.urlpattern_pattern.specs.UrlPatterns.{UrlPattern}
use Rattle.urlpattern_syntax.specs.Text.{text_of}
use Rattle.urlpattern_values.specs.EncodedValues.{DecodesTo}

-- In each match of `url`, each group to which `groups` gives a value captures a text that decodes
-- to exactly that value.
abbrev pub ReturnsDecoded : {E : Type 0} → (answer : E → List ℕ → Option Captures) → UrlPattern E
    → List GivenView → Parts → Type 0
ReturnsDecoded answer pattern groups url = (component : ComponentName) (name value : List ℕ) →
    text_given groups component name ≡ Some value
    → IsTrue
    (list_any (bytes_eq name) (eight_view pattern.components component).group_name_list)
    →
    (text : List ℕ) × DecodesTo text value
    × IsCapturedBy answer (eight_view pattern.components) url component name text

-- ---- values that are changed

-- The name is that of a group of `component` whose value in `groups` is changed. None: no value of
-- the component is.
abbrev pub IsChangedIn : {E : Type 0} → PatternView E → PatternParts → List GivenView
    → ComponentName → Option (List ℕ) → Type 0
IsChangedIn pattern parts groups component found =
    IsChanged (settings_in parts groups component) (pattern component).group_name_list found

-- The component and the characters of the name of a group.
abbrev pub group_named : ComponentName × Bor (List ℕ) → ComponentName × List ℕ
group_named group = (group.0, chars group.1.now)

-- The component and the name are those of the first group of the pattern whose value in `groups` is
-- changed. None: no value is.
abbrev pub IsFirstChanged : {E : Type 0} → PatternView E → PatternParts → List GivenView
    → Option (ComponentName × List ℕ) → Type 0
IsFirstChanged pattern parts groups None =
    (component : ComponentName) → IsChangedIn pattern parts groups component None
IsFirstChanged pattern parts groups (Some group) =
    (before after : List ComponentName) × (components ≡ before ++ group.0 ∷ after)
    × All (λ earlier. IsChangedIn pattern parts groups earlier None) before
    × IsChangedIn pattern parts groups group.0 (Some group.1)

-- The error names the first group of the pattern whose value in `groups` is changed: the canonical
-- form of the value decodes otherwise. Or memory ran out.
abbrev pub ChangesGroup : {E : Type 0} → UrlPattern E → List GivenView → NoLink → Type 0
ChangesGroup pattern groups (Component (NotCaptured component name)) =
    HasParts pattern (λ parts.
    IsFirstChanged (eight_view pattern.components) parts groups (Some (component, text_of name)))
ChangesGroup pattern groups OutOfMemory = Unit {0}
ChangesGroup pattern groups error = ⊥

-- `error` says why the pattern has no link for the encoded values `groups`: why `link` has none, or
-- that a value is changed.
abbrev pub RejectsEncoded : {E : Type 0} → (answer : E → List ℕ → Option Captures) → UrlPattern E
    → List GivenView → NoLink → Type 0
RejectsEncoded answer pattern groups error =
    RejectsLink answer pattern groups error ⊎ ChangesGroup pattern groups error
