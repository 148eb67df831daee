-- Patterns that match no texts in common, as the fronts of a component tell.
use Rattle.std.proofs.Common.{◌≡◌, ◌∙◌, ℕ, All, List, Some, ap, inl, inr, map, subst}
use Rattle.std.proofs.lemmas.Option.{get_or_from_slice_get, slice_get-map, slice_get_within}
use Rattle.std.specs.Borrow.{Bor}
use Rattle.std.specs.Prelude.{option_map, slice_get}
use Rattle.urlpattern_compare.specs.Candidates.{AreLines, TextAt}
use Rattle.urlpattern_compare.specs.CommonTexts.{IsSameIn, Takes, TakesAll, TakesNone}
use Rattle.urlpattern_compare.specs.TextSearch.{IsLine}
use Rattle.urlpattern_compare.specs.declared.common_texts.PatternAutomata.{PatternAutomata}
use Rattle.urlpattern_components.specs.Eight.{at}
use Rattle.urlpattern_components.specs.declared.eight.ComponentName.{ComponentName}

-- What holds of each pattern holds of the one at an index.
pub of_one : (P : PatternAutomata → Type 0) (patterns : List (Bor PatternAutomata)) (i : ℕ) (one : Bor PatternAutomata) → slice_get patterns i ≡ Some one → All P (map (λ it. it.now) patterns) → P one.now
of_one P patterns i one is all =
    let each = map (λ it. it.now) patterns in
    let there = slice_get-map (λ it. it.now) patterns i ∙ ap (option_map (λ it. it.now)) is in
    subst P (get_or_from_slice_get each i one.now one.now there) (all i one.now (slice_get_within each i one.now there))

-- If the first two patterns take no text of a component in common, no texts are taken by all.
pub none_by_all : (patterns : List (Bor PatternAutomata)) (one other : Bor PatternAutomata) (name : ComponentName) → slice_get patterns 0 ≡ Some one → slice_get patterns 1 ≡ Some other
    → ((text : List ℕ) → IsLine text → Takes (at one.now.automata name) text → ¬ Takes (at other.now.automata name) text)
    → (texts : TextAt) → AreLines texts → ¬ All (λ pattern. TakesAll pattern texts) (map (λ it. it.now) patterns)
none_by_all patterns one other name first second apart texts lines all =
    apart (texts name) (lines name) (of_one (λ pattern. TakesAll pattern texts) patterns 0 one first all name) (of_one (λ pattern. TakesAll pattern texts) patterns 1 other second all name)

-- If the first pattern and another take no text of a component in common, and the component is not
-- the same in one of the patterns, the other takes no texts that each of them takes.
pub none_of_other : (patterns : List (Bor PatternAutomata)) (one : Bor PatternAutomata) (other : PatternAutomata) (name : ComponentName) → slice_get patterns 0 ≡ Some one → ¬ IsSameIn (map (λ it. it.now) patterns) other name
    → ((text : List ℕ) → IsLine text → Takes (at one.now.automata name) text → ¬ Takes (at other.automata name) text)
    → TakesNone (map (λ it. it.now) patterns) other
none_of_other patterns one other name first unlike apart texts lines all takes = elim (takes name) [
  | inl same ↦ unlike same
  | inr taken ↦ apart (texts name) (lines name) (of_one (λ pattern. TakesAll pattern texts) patterns 0 one first all name) taken
]
