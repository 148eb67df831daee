-- What the parts of a component say about the texts that it matches.
use Rattle.std.specs.Prelude.{◌≡◌, ℕ, false, true, List, [], ◌∷◌, IsTrue, Option}
use Rattle.urlpattern_matcher.specs.Components.{IsComponentOf, component_view}
use Rattle.urlpattern_matcher.specs.declared.component.Component.{Component}
use Rattle.urlpattern_matcher.specs.declared.regexp.RegExp.{Ghosts as Engine}
use Rattle.urlpattern_index.specs.Paths.{FitsParts}
use Rattle.urlpattern_meaning.specs.Matching.{IsMatched}
use Rattle.urlpattern_meaning.specs.PartMeaning.{Captures}
use Rattle.urlpattern_syntax.specs.ComponentParts.{kept_options, kept_parts}
use Rattle.urlpattern_syntax.specs.declared.parts.ComponentParts.{ComponentParts}
use Rattle.urlpattern_syntax.specs.{Options.OptionsView, Parts.PartView, RegexpText.is_plain}

-- `engine` makes `component` of the parts in `kept`, under the options in `kept`.
abbrev pub IsOfParts : {E : Type 0} → Engine E → ComponentParts → Component E → Type 0
IsOfParts engine kept component =
    IsComponentOf engine (kept_options kept) (kept_parts kept) (component_view component)

-- Each text that the component matches has the property `Is`; `answer` returns what an engine
-- captures in a text.
abbrev pub MatchesOnly : {E : Type 0} → (answer : E → List ℕ → Option Captures) → Component E
    → (Is : List ℕ → Type 0) → Type 0
MatchesOnly answer component Is =
    (text : List ℕ) → IsMatched answer (component_view component).matcher text → Is text

-- The text is a concatenation of texts that fit the parts in `kept`, one text for each part.
abbrev pub FitsKept : ComponentParts → List ℕ → Type 0
FitsKept kept text = FitsParts true (kept_options kept).delimiter (kept_parts kept) text

-- `first` is empty; or it is the first of `parts` alone, which is a fixed text without modifier,
-- and `options` do not ignore case.
abbrev pub IsFirstText : OptionsView → List PartView → (first : List PartView) → Type 0
IsFirstText options parts [] = Unit {0}
IsFirstText options parts (first ∷ []) =
    (options.ignore_case ≡ false) × IsTrue (is_plain first)
    × (rest : List PartView) × (parts ≡ first ∷ rest)
IsFirstText options parts more = ⊥
