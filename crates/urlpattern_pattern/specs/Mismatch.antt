-- The first component that does not match its text. The URLPattern Standard, section "Matching", at
-- "match".
use Rattle.std.specs.Prelude.{◌≡◌, All, ℕ, List, ◌∷◌, ◌++◌, MatchOption, Option, None}
use Rattle.urlpattern_pattern.specs.{Match.AreMatched, Patterns.PatternView}
use Rattle.urlpattern_meaning.specs.Matching.{Returns, CallsEngine, IsMatched}
use Rattle.urlpattern_meaning.specs.PartMeaning.{Captures}
use Rattle.urlpattern_components.specs.declared.eight.ComponentName.{ComponentName}
use Rattle.urlpattern_components.specs.Eight.{Texts, at, components}

-- The components before `component`, in the order of the standard, match their texts.
abbrev pub MatchesBefore : {E : Type 0} → (answer : E → List ℕ → Option Captures) → PatternView E
    → Texts → ComponentName → Type 0
MatchesBefore answer pattern texts component =
    (before after : List ComponentName) × (components ≡ before ++ component ∷ after)
    × All (λ earlier. IsMatched answer (pattern earlier).matcher (at texts earlier)) before

-- `component` is the first, in the order of the standard, that does not match its text.
abbrev pub IsMismatch : {E : Type 0} → (answer : E → List ℕ → Option Captures) → PatternView E
    → Texts → ComponentName → Type 0
IsMismatch answer pattern texts component =
    MatchesBefore answer pattern texts component
    × Returns answer (pattern component).matcher (at texts component) None

-- `found` is what `mismatch` returns: the first component that does not match its text, or None if
-- each component matches.
abbrev pub FindsMismatch : {E : Type 0} → (answer : E → List ℕ → Option Captures) → PatternView E
    → Texts → Option ComponentName → Type 0
FindsMismatch answer pattern texts found =
    MatchOption found (AreMatched answer pattern texts) (IsMismatch answer pattern texts)

-- An engine is called for the text of some component, and all components before it match their
-- texts.
abbrev pub CallsInTurn : {E : Type 0} → (answer : E → List ℕ → Option Captures) → PatternView E
    → Texts → Type 0
CallsInTurn answer pattern texts =
    (component : ComponentName) × MatchesBefore answer pattern texts component
    × CallsEngine (pattern component).matcher (at texts component)
