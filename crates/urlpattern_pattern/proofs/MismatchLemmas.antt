-- The components one after the other, in the order of the standard.
use Rattle.std.proofs.Common.{◌≡◌, ◌<◌, ◌++◌, ℕ, Bor, List, ◌∷◌, ap, drop, get_or, length, subst, suc, sym, take, ◌∙◌}
use Rattle.std.proofs.Math.Seq.{drop-cons}
use Rattle.std.proofs.lemmas.List.{take-append-drop}
use Rattle.std.specs.Prelude.{All, Option}
use Rattle.std.specs.Str.{chars}
use Rattle.urlpattern_matcher.specs.Matchers.{matcher_view}
use Rattle.urlpattern_matcher.specs.declared.component.Component.{Component}
use Rattle.urlpattern_meaning.specs.Matching.{IsMatched, MatcherView}
use Rattle.urlpattern_meaning.specs.PartMeaning.{Captures}
use Rattle.urlpattern_pattern.proofs.MatchSteps.{text-at}
use Rattle.urlpattern_matches.specs.GroupTexts.{borrowed_texts}
use Rattle.urlpattern_pattern.specs.Mismatch.{MatchesBefore}
use Rattle.urlpattern_pattern.specs.Patterns.{PatternView, components_of, pattern_view}
use Rattle.urlpattern_pattern.specs.UrlPatterns.{UrlPattern}
use Rattle.urlpattern_components.specs.declared.eight.ComponentName.{ComponentName}
use Rattle.urlpattern_components.specs.declared.eight.Eight.{Eight}
use Rattle.urlpattern_components.specs.declared.eight.ComponentName.TheVariants.{Protocol}
use Rattle.urlpattern_components.specs.Eight.{Texts, at, components}

-- A list is what comes before an element, the element, and what comes after it.
split_at : {X : Type 0} (xs : List X) (i : ℕ) (d : X) → i < length xs → xs ≡ take i xs ++ get_or xs i d ∷ drop (suc i) xs
split_at xs i d within = sym (take-append-drop i xs) ∙ ap (λ rest. take i xs ++ rest) (drop-cons xs i d within)

-- Where the components before an index match, the components before its component do.
pub matches_before : {E : Type 0} (answer : E → List ℕ → Option Captures) (pattern : PatternView E) (texts : Texts) (names : List ComponentName) (i : ℕ) → names ≡ components → i < length names →
    All (λ earlier. IsMatched answer (pattern earlier).matcher (at texts earlier)) (take i names) → MatchesBefore answer pattern texts (get_or names i Protocol)
matches_before answer pattern texts names i are within all =
    subst (λ (listed : List ComponentName). (before after : List ComponentName) × (listed ≡ before ++ get_or names i Protocol ∷ after)
    × All (λ earlier. IsMatched answer (pattern earlier).matcher (at texts earlier)) before)
    are (take i names, drop (suc i) names, split_at names i Protocol within, all)

-- What holds of a component that was got, and of its text, holds of the pattern's component and its
-- text.
pub of_got : {E : Type 0} (P : MatcherView E → List ℕ → Type 0) (pattern : UrlPattern E) (texts : Eight (Bor (List ℕ))) (name : ComponentName) (component : Component E) (text : Bor (List ℕ)) →
    component ≡ at (components_of pattern) name → text ≡ at texts name → P (matcher_view component.matcher) (chars text.now) → P (pattern_view pattern name).matcher (at (borrowed_texts texts) name)
of_got {E} P pattern texts name component text is text_is holds =
    subst (λ (seen : List ℕ). P (pattern_view pattern name).matcher seen) (ap (λ (t : Bor (List ℕ)). chars t.now) text_is ∙ sym (text-at texts name))
    (subst (λ (got : Component E). P (matcher_view got.matcher) (chars text.now)) is holds)
