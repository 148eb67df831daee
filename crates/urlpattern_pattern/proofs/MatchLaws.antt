-- The laws of matches: a matcher returns one result, and so does a pattern.
use Rattle.std.proofs.Common.{◌≡◌, ℕ, Bool, List, refl, sym, ap, ◌∙◌, subst, inl, inr}
use Rattle.std.specs.Prelude.{Option, Ok, Err}
use Rattle.urlpattern_components.specs.declared.eight.ComponentName.{ComponentName}
use Rattle.urlpattern_init.specs.declared.init.UrlPatternMatchInput.{UrlPatternMatchInput}
use Rattle.urlpattern_pattern.specs.Match.{HasMatch, HasNoMatch, IsLongInput, IsMatch, DoesNotMatch}
use Rattle.urlpattern_matches.specs.ResultViews.{IsSameResult, ResultView, group_of}
use Rattle.urlpattern_matches.specs.MatchInput.{IsNoInput, input_texts}
use Rattle.urlpattern_pattern.specs.Patterns.{PatternView}
use Rattle.urlpattern_matcher.proofs.MatcherResults.{matches-accepts}
use Rattle.urlpattern_meaning.specs.Matching.{Accepts, InnerView, Literal, Matches, MatcherView, RegExp, SingleCapture}
use Rattle.urlpattern_meaning.specs.PartMeaning.{Captures}
use Rattle.urlpattern_components.specs.Eight.{Texts, at}

-- ---- a test reports a match

pub match_from-test : {E : Type 0} (answer : E → List ℕ → Option Captures) (pattern : PatternView E) (input : UrlPatternMatchInput) →
    HasMatch answer pattern input → (result : ComponentName → ResultView) × IsMatch answer pattern input result
match_from-test answer pattern input (texts, are_texts, matched) =
    let captures : ComponentName → Captures = λ component. (matched component).0 in (
      λ component. record { input = at texts component; group = group_of (pattern component).group_name_list (captures component) },
      (
        texts,
        are_texts,
        record {
          captures = captures;
          are_answers = λ component. (matched component).1;
          are_results = λ component. record { has_input = refl; has_groups = λ name. refl };
        },
      ),
    )

pub test_from-match : {E : Type 0} (answer : E → List ℕ → Option Captures) (pattern : PatternView E) (input : UrlPatternMatchInput) (result : ComponentName → ResultView) →
    IsMatch answer pattern input result → HasMatch answer pattern input
test_from-match answer pattern input result (texts, are_texts, match) =
    (texts, are_texts, λ component. (match.captures component, match.are_answers component))

-- ---- one match

accepts-one : {E : Type 0} (answer : E → List ℕ → Option Captures) (ignore_case : Bool) (inner : InnerView E) (text : List ℕ) (captures others : Captures) →
    Accepts answer ignore_case inner text captures → Accepts answer ignore_case inner text others → captures ≡ others
accepts-one answer ignore_case (Literal literal) text captures others one other = one.1 ∙ sym other.1
accepts-one answer ignore_case (SingleCapture filter allow_empty) text captures others one other = one.2 ∙ sym other.2
accepts-one answer ignore_case (RegExp (Ok engine)) text captures others one other = cc
accepts-one answer ignore_case (RegExp (Err error)) text captures others one other = absurd one

matches-one : {E : Type 0} (answer : E → List ℕ → Option Captures) (matcher : MatcherView E) (text : List ℕ) (captures others : Captures) →
    Matches answer matcher text captures → Matches answer matcher text others → captures ≡ others
matches-one answer matcher text captures others (middle, cut, accepts) other =
    accepts-one answer matcher.ignore_case matcher.inner middle captures others accepts ((matches-accepts answer matcher text middle others cut).0 other)

pub texts-one : (input : UrlPatternMatchInput) (texts others : Texts) → input_texts input ≡ Ok texts → input_texts input ≡ Ok others → texts ≡ others
texts-one input texts others one other = cc

pub match-one : {E : Type 0} (answer : E → List ℕ → Option Captures) (pattern : PatternView E) (input : UrlPatternMatchInput) (result other : ComponentName → ResultView) →
    IsMatch answer pattern input result → IsMatch answer pattern input other → (component : ComponentName) → IsSameResult (result component) (other component)
match-one answer pattern input result other (texts, are_texts, match) (texts', are_texts', match') component =
    let same = texts-one input texts' texts are_texts' are_texts in
    let one = match.are_results component in
    let two = match'.are_results component in
    let captured : match.captures component ≡ match'.captures component =
    matches-one answer (pattern component).matcher (at texts component) (match.captures component) (match'.captures component)
    (match.are_answers component)
    (subst (λ (t : Texts). Matches answer (pattern component).matcher (at t component) (match'.captures component)) same (match'.are_answers component)) in (
      one.has_input ∙ ap (λ (t : Texts). at t component) (sym same) ∙ sym two.has_input,
      λ name. one.has_groups name ∙ ap (λ (c : Captures). group_of (pattern component).group_name_list c name) captured ∙ sym (two.has_groups name),
    )

-- ---- match and mismatch exclude each other

pub no_input-long : (input : UrlPatternMatchInput) (texts : Texts) → input_texts input ≡ Ok texts → IsNoInput input → IsLongInput input
no_input-long input texts are_texts (inl refused) = absurd (let e = refused.1 in let never : ⊥ = cc in never)
no_input-long input texts are_texts (inr long) = long

-- Texts, one of them rejected by its component, are not matched.
pub refused-unmatched : {E : Type 0} (answer : E → List ℕ → Option Captures) (pattern : PatternView E) (input : UrlPatternMatchInput) (texts : Texts) →
    input_texts input ≡ Ok texts → DoesNotMatch answer pattern texts → ¬ HasMatch answer pattern input
refused-unmatched answer pattern input texts are_texts (component, refused) = λ (others, are_others, matched).
    let same = texts-one input others texts are_others are_texts in
    let found = matched component in
    refused found.0 (subst (λ (t : Texts). Matches answer (pattern component).matcher (at t component) found.0) same found.1)

pub match-not_both : {E : Type 0} (answer : E → List ℕ → Option Captures) (pattern : PatternView E) (input : UrlPatternMatchInput) →
    HasMatch answer pattern input → HasNoMatch answer pattern input → IsLongInput input
match-not_both answer pattern input (texts, are_texts, matched) (inl no_input) = no_input-long input texts are_texts no_input
match-not_both answer pattern input has (inr (texts, are_texts, refused)) = absurd (refused-unmatched answer pattern input texts are_texts refused has)
