-- Lemmas on the first pattern of a list that matches.
use Rattle.std.proofs.Common.{◌≡◌, ◌<◌, ◌≤◌, ℕ, Bor, List, get_or, length, refl, sym, inr, take}
use Rattle.std.proofs.lemmas.List.Elements.{All-weaker}
use Rattle.std.proofs.lemmas.Option.{slice_get_past, slice_get_read}
use Rattle.std.specs.Prelude.{IfOk, IfSome, MatchOption, Option, Some, None, Result, Ok, Err, option_copied, option_map, slice_get}
use Rattle.urlpattern_init.specs.declared.init.UrlPatternMatchInput.{UrlPatternMatchInput}
use Rattle.urlpattern_components.specs.declared.eight.ComponentName.{ComponentName}
use Rattle.urlpattern_meaning.specs.PartMeaning.{Captures}
use Rattle.urlpattern_pattern.proofs.MatchLaws.{refused-unmatched}
use Rattle.urlpattern.specs.FirstMatch.{IsFirstMatch, IsFirstMatchOf}
use Rattle.urlpattern_pattern.specs.Match.{HasMatch, HasNoMatch, IsMatchOf, DoesNotMatch}
use Rattle.urlpattern_matches.specs.ResultViews.{ResultView}
use Rattle.urlpattern_matches.specs.MatchInput.{input_texts}
use Rattle.urlpattern_pattern.specs.Patterns.{PatternView}
use Rattle.urlpattern_syntax.specs.declared.error.Error.{Error}
use Rattle.urlpattern_components.specs.Eight.{Texts}

-- ---- the pattern at an index

-- The borrowed element is the one at the index.
pub got : {X : Type 0} (found : Option (Bor X)) (xs : List X) (i : ℕ) (P : Bor X → Type 0)
    → IfSome found (λ x. x.now ≡ get_or xs i x.now) → MatchOption found (length xs ≤ i) (λ x. (i < length xs) × P x)
    → option_copied found ≡ slice_get xs i
got None xs i P same past = sym (slice_get_past xs i past)
got (Some x) xs i P same (inside, p) = sym (slice_get_read xs (length xs) i x.now refl inside same)

-- ---- a first match and its result

module _ {E : Type 0} (answer : E → List ℕ → Option Captures) (patterns : List (PatternView E)) where
  -- A copy of the match is a first match as well.
  pub first-same : (texts : Texts) (index : ℕ) (match result : ComponentName → ResultView)
      → ((pattern : PatternView E) → IsMatchOf answer pattern texts match → IsMatchOf answer pattern texts result)
      → IsFirstMatchOf answer patterns texts (Some (index, match)) → IsFirstMatchOf answer patterns texts (Some (index, result))
  first-same texts index match result step ((pattern, is_there, is_match), others) = ((pattern, is_there, step pattern is_match), others)

-- ---- from texts to inputs

module _ {E : Type 0} (answer : E → List ℕ → Option Captures) (patterns : List (PatternView E)) (input : UrlPatternMatchInput) where
  -- The first match of the input's texts is that of the input.
  pub first-of_texts : {X : Type 0} (view : X → ComponentName → ResultView) (texts : Texts) (result : Result (Option (ℕ × X)) Error) → input_texts input ≡ Ok texts
      → IfOk result (λ found. IsFirstMatchOf answer patterns texts (option_map (λ first. (first.0, view first.1)) found))
      → IfOk result (λ found. IsFirstMatch answer patterns input (option_map (λ first. (first.0, view first.1)) found))
  first-of_texts view texts (Ok (Some first)) are_texts ((pattern, is_there, is_match), others) = (
    (pattern, is_there, (texts, are_texts, is_match)),
    All-weaker (λ earlier. DoesNotMatch answer earlier texts) (λ earlier. ¬ HasMatch answer earlier input)
        (λ earlier refused. refused-unmatched answer earlier input texts are_texts refused) (take first.0 patterns) others,
  )
  first-of_texts view texts (Ok None) are_texts refused =
      All-weaker (λ pattern. DoesNotMatch answer pattern texts) (λ pattern. HasNoMatch answer pattern input) (λ pattern refused. inr (texts, are_texts, refused)) patterns refused
  first-of_texts view texts (Err error) are_texts h = tt
