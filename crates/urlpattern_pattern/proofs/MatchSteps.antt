-- From the results of eight components to the result of a call.
use Rattle.std.proofs.Common.{◌≡◌, ℕ, Bor, List, [], ◌∷◌, true, false, refl, sym, ◌∙◌, subst, inl, inr}
use Rattle.std.specs.Prelude.{Bool, Option, Some, None, Result, Ok, Err, is_some, IfOk, IfNone, IfSome, IsSomeAnd, MatchBool, MatchOption, ◌⊎◌}
use Rattle.std.specs.Str.{chars}
use Rattle.urlpattern_components.specs.declared.eight.ComponentName.{ComponentName}
use Rattle.urlpattern_init.specs.declared.init.UrlPatternMatchInput.{UrlPatternMatchInput}
use Rattle.urlpattern_components.specs.declared.eight.Eight.{Eight}
use Rattle.urlpattern_components.proofs.EightLemmas.{by_name}
use Rattle.urlpattern_pattern.specs.MatchCalls.{AreLooks, CallWithCause}
use Rattle.urlpattern_matches.specs.GroupTexts.{borrowed_texts}
use Rattle.urlpattern_pattern.specs.Match.{AreMatched, CallsAnEngine, FindsInTexts, HasMatch, HasNoMatch, IsMatch, IsMatchOf, DoesNotMatch}
use Rattle.urlpattern_matches.specs.ResultViews.{IsSameResult, ResultView}
use Rattle.urlpattern_matches.specs.MatchInput.{input_texts}
use Rattle.urlpattern_pattern.specs.Patterns.{PatternView}
use Rattle.urlpattern_matcher.specs.Looks.{NeedsEngine, look_result}
use Rattle.urlpattern_matcher.specs.declared.matcher.look.Look.{Look}
use Rattle.urlpattern_matcher.specs.declared.matcher.look.Look.TheVariants as looks
use Rattle.urlpattern_meaning.specs.Matching.{Returns, CallsEngine, IsMatched, MatcherView}
use Rattle.urlpattern_meaning.specs.PartMeaning.{Captures}
use Rattle.urlpattern_syntax.specs.declared.error.Error.{Error}
use Rattle.urlpattern_components.specs.Eight.{Texts, at}

-- Whether something was found.
pub reports-some : {X : Type 0} (P : X → Type 0) (A B : Type 0) (found : Option X) (test : Bool) → test ≡ is_some found →
    ((x : X) → P x → A) → IfSome found P → IfNone found B → MatchBool test A B
reports-some P A B None test e f some none = subst (λ (b : Bool). MatchBool b A B) (sym e) none
reports-some P A B (Some x) test e f some none = subst (λ (b : Bool). MatchBool b A B) (sym e) (f x some)

-- A look that calls no engine has captures.
asks-or_matches : {E : Type 0} (answer : E → List ℕ → Option Captures) (matcher : MatcherView E) (text : List ℕ) (look : Look E) →
    Returns answer matcher text (look_result answer (Some look)) → (NeedsEngine look → CallsEngine matcher text) → CallsEngine matcher text ⊎ IsMatched answer matcher text
asks-or_matches answer matcher text looks.Matched is asks = inr ([], is)
asks-or_matches answer matcher text (looks.Captured middle) is asks = inr (Some (chars middle.now) ∷ [], is)
asks-or_matches answer matcher text (looks.Asks engine middle) is asks = inl (asks tt)

-- An engine is called if one of eight looks calls one.
pub asks-an_engine : {E : Type 0} (answer : E → List ℕ → Option Captures) (pattern : PatternView E) (texts : Texts) (looks : Eight (Look E)) →
    AreLooks answer pattern texts looks → CallWithCause pattern texts looks → (name : ComponentName) × NeedsEngine (at looks name) → CallsAnEngine answer pattern texts
asks-an_engine answer pattern texts looks are ask (name, asking) = record {
  asked = (name, ask name asking);
  others = λ other. asks-or_matches answer (pattern other).matcher (at texts other) (at looks other) (are other) (ask other);
}

-- A test of the input's texts tests the input.
pub test-of_texts : {E : Type 0} (answer : E → List ℕ → Option Captures) (pattern : PatternView E) (input : UrlPatternMatchInput) (texts : Texts) (result : Result Bool Error) →
    input_texts input ≡ Ok texts → IfOk result (λ matched. MatchBool matched (AreMatched answer pattern texts) (DoesNotMatch answer pattern texts)) →
    IfOk result (λ matched. MatchBool matched (HasMatch answer pattern input) (HasNoMatch answer pattern input))
test-of_texts answer pattern input texts (Ok true) e h = (texts, e, h)
test-of_texts answer pattern input texts (Ok false) e h = inr (texts, e, h)
test-of_texts answer pattern input texts (Err error) e h = tt

-- What is found of the input's texts is found of the input.
pub found-of_texts : {E X : Type 0} (answer : E → List ℕ → Option Captures) (pattern : PatternView E) (view : X → ComponentName → ResultView) (input : UrlPatternMatchInput) (texts : Texts) (result : Result (Option X) Error) →
    input_texts input ≡ Ok texts → IfOk result (λ found. MatchOption found (DoesNotMatch answer pattern texts) (λ match. IsMatchOf answer pattern texts (view match))) →
    IfOk result (λ found. MatchOption found (HasNoMatch answer pattern input) (λ match. IsMatch answer pattern input (view match)))
found-of_texts answer pattern view input texts (Ok (Some match)) e matched = (texts, e, matched)
found-of_texts answer pattern view input texts (Ok None) e refused = inr (texts, e, refused)
found-of_texts answer pattern view input texts (Err error) e h = tt

-- A result with the texts and groups of a match is a match.
pub match-same : {E : Type 0} (answer : E → List ℕ → Option Captures) (pattern : PatternView E) (texts : Texts) (match result : ComponentName → ResultView) →
    ((name : ComponentName) → IsSameResult (result name) (match name)) → IsMatchOf answer pattern texts match → IsMatchOf answer pattern texts result
match-same answer pattern texts match result same is_match = record {
  captures = is_match.captures;
  are_answers = is_match.are_answers;
  are_results = λ name. record {
    has_input = (same name).0 ∙ (is_match.are_results name).has_input;
    has_groups = λ group. (same name).1 group ∙ (is_match.are_results name).has_groups group;
  };
}

-- A copy of a match is found.
pub found-copy : {E R : Type 0} (answer : E → List ℕ → Option Captures) (pattern : PatternView E) (texts : Texts) (match : ComponentName → ResultView)
    (view : R → ComponentName → ResultView) (found : Option R) → IsSomeAnd found (λ copy. (name : ComponentName) → IsSameResult (view copy name) (match name)) →
    IsMatchOf answer pattern texts match → FindsInTexts view answer pattern texts found
found-copy answer pattern texts match view (Some copy) same is_match = match-same answer pattern texts match (view copy) same is_match
found-copy answer pattern texts match view None same is_match = absurd same

-- The borrowed text of one component.
pub text-at : (texts : Eight (Bor (List ℕ))) (name : ComponentName) → at (borrowed_texts texts) name ≡ chars (at texts name).now
text-at texts = by_name (λ name. at (borrowed_texts texts) name ≡ chars (at texts name).now) refl refl refl refl refl refl refl refl
