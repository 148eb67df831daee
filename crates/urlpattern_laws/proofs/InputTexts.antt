-- What is found in an input depends on the input by its texts.
use Rattle.std.proofs.Common.{◌≡◌, ℕ, true, false, List, inl, inr, refl, subst, Option, Some, None, Ok}
use Rattle.urlpattern_components.specs.declared.eight.ComponentName.{ComponentName}
use Rattle.urlpattern_components.specs.Eight.{Texts}
use Rattle.urlpattern_init.specs.declared.init.UrlPatternMatchInput.{UrlPatternMatchInput}
use Rattle.urlpattern_laws.specs.PatternLaws.{EqualTextsHaveEqualResults, EqualTextsHaveEqualTests}
use Rattle.urlpattern_matches.specs.MatchInput.{input_texts}
use Rattle.urlpattern_matches.specs.ResultViews.{ResultView}
use Rattle.urlpattern_meaning.specs.PartMeaning.{Captures}
use Rattle.urlpattern_pattern.proofs.MatchLaws.{match-not_both, match-one, no_input-long, test_from-match, texts-one}
use Rattle.urlpattern_pattern.specs.Match.{DoesNotMatch, HasMatch, HasNoMatch, IsLongInput, IsMatch, IsMatchOf}
use Rattle.urlpattern_pattern.specs.Patterns.{PatternView}

module _ {E : Type 0} (answer : E → List ℕ → Option Captures) (pattern : PatternView E) (input : UrlPatternMatchInput) (texts : Texts) where
  pub match_of_texts : (result : ComponentName → ResultView) → input_texts input ≡ Ok texts → IsMatch answer pattern input result → IsMatchOf answer pattern texts result
  match_of_texts result are_texts (others, are_others, match) = subst (λ (t : Texts). IsMatchOf answer pattern t result) (texts-one input others texts are_others are_texts) match

  pub refusal_of_texts : input_texts input ≡ Ok texts → ¬ IsLongInput input → HasNoMatch answer pattern input → DoesNotMatch answer pattern texts
  refusal_of_texts are_texts short (inl no_input) = absurd (short (no_input-long input texts are_texts no_input))
  refusal_of_texts are_texts short (inr (others, are_others, refused)) = subst (λ (t : Texts). DoesNotMatch answer pattern t) (texts-one input others texts are_others are_texts) refused

  -- Texts are not both matched and not matched.
  excluded : input_texts input ≡ Ok texts → ¬ IsLongInput input → HasMatch answer pattern input → DoesNotMatch answer pattern texts → ⊥
  excluded are_texts short has refused = short (match-not_both answer pattern input has (inr (texts, are_texts, refused)))

pub equal_results : {E : Type 0} (answer : E → List ℕ → Option Captures) → EqualTextsHaveEqualResults answer
equal_results answer pattern input other texts None None is also short brief refused refused_too = tt
equal_results answer pattern input other texts (Some result) (Some another) is also short brief match match_too =
    match-one answer pattern input result another match (texts, is, match_of_texts answer pattern other texts another also match_too)
equal_results answer pattern input other texts (Some result) None is also short brief match refused =
    excluded answer pattern input texts is short (test_from-match answer pattern input result match) (refusal_of_texts answer pattern other texts also brief refused)
equal_results answer pattern input other texts None (Some another) is also short brief refused match =
    excluded answer pattern other texts also brief (test_from-match answer pattern other another match) (refusal_of_texts answer pattern input texts is short refused)

pub equal_tests : {E : Type 0} (answer : E → List ℕ → Option Captures) → EqualTextsHaveEqualTests answer
equal_tests answer pattern input other texts true true is also short brief has has_too = refl
equal_tests answer pattern input other texts false false is also short brief none none_too = refl
equal_tests answer pattern input other texts true false is also short brief has none =
    absurd (excluded answer pattern input texts is short has (refusal_of_texts answer pattern other texts also brief none))
equal_tests answer pattern input other texts false true is also short brief none has =
    absurd (excluded answer pattern other texts also brief has (refusal_of_texts answer pattern input texts is short none))
