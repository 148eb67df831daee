-- Lemmas on what conditions mean.
use Rattle.std.proofs.Common.{◌≡◌, ℕ, zero, suc, ◌+◌, ◌<◌, ◌≤◌, ◌∙◌, Bor, Box, Global, Bool, true, false, List, [], ◌∷◌, Option, Some, None, Result, Ok, Err, IfOk, IfErr, MatchBool, add-one, ap, arith, bytes_eq, get_or, inl, inr, length, map, option_map, refl, rules, slice_get, subst, sym, take, true≢false}
use Rattle.std.proofs.lemmas.Option.{same_Some, slice_get-map, slice_get_past, slice_get_read}
use Rattle.std.proofs.lemmas.Slice.Eq.{bytes_eq-Decides}
use Rattle.urlpattern_components.specs.Eight.{Texts}
use Rattle.urlpattern_conditions.specs.ConditionViews.{condition_view, conditions_view}
use Rattle.urlpattern_conditions.specs.Conditions.{AsksEngine, EachHolds, Holds, SayWhether, SomeAskEngine, SomeHolds, of_url}
use Rattle.urlpattern_conditions.specs.Requests.{RequestView}
use Rattle.urlpattern_conditions.specs.declared.condition.Condition.{Condition, Url, the_lemmas}
use Rattle.urlpattern_meaning.specs.PartMeaning.{Captures}
use Rattle.urlpattern_pattern.specs.Match.{AreMatched, TestsTexts}
use Rattle.urlpattern_pattern.specs.Patterns.{PatternView, pattern_view}
use Rattle.urlpattern_pattern.specs.UrlPatterns.{UrlPattern}

-- A pattern that does not match is not matched.
pub tested : {E : Type 0} (answer : E → List ℕ → Option Captures) (pattern : PatternView E) (texts : Texts) (test : Bool) → TestsTexts answer pattern texts test → SayWhether (AreMatched answer pattern texts) test
tested answer pattern texts true matched = matched
tested answer pattern texts false refused = λ matched. let one = matched refused.0 in refused.1 one.0 one.1

pub tested-result : {E X : Type 0} (answer : E → List ℕ → Option Captures) (pattern : PatternView E) (texts : Texts) (result : Result Bool X) → IfOk result (TestsTexts answer pattern texts) → IfOk result (SayWhether (AreMatched answer pattern texts))
tested-result answer pattern texts (Ok test) is = tested answer pattern texts test is
tested-result answer pattern texts (Err error) is = tt

pub if-err : {X Y : Type 0} (result : Result X Y) (Fact : Type 0) → Fact → IfErr result (λ error. Fact)
if-err (Ok value) Fact fact = tt
if-err (Err error) Fact fact = fact

-- What a test of the opposite says.
pub opposite : (Fact : Type 0) (test : Bool) → test ≡ false → SayWhether Fact test → ¬ Fact
opposite Fact true is holds = absurd cc
opposite Fact false is fails = fails

pub stated : (Fact : Type 0) (test : Bool) → test ≡ true → SayWhether Fact test → Fact
stated Fact true is holds = holds
stated Fact false is fails = absurd cc

pub view-Url : {E : Type 0} (pattern : Box (UrlPattern E) Global) → condition_view (Url pattern) ≡ of_url (pattern_view pattern.value)
view-Url pattern = search (rules, the_lemmas)

-- ---- names

own_name : (own name : List ℕ) (test : Bool) → bytes_eq own name ≡ test → MatchBool test (own ≡ name) (¬ (own ≡ name))
own_name own name true is = (bytes_eq-Decides own name).0 is
own_name own name false is = λ same. true≢false (sym ((bytes_eq-Decides own name).1 same) ∙ is)

named : (found : Option (List ℕ)) (own name : List ℕ) (test : Bool) → found ≡ Some own → MatchBool test (own ≡ name) (¬ (own ≡ name)) → MatchBool test (found ≡ Some name) (¬ (found ≡ Some name))
named found own name true is same = is ∙ ap (λ it. Some it) same
named found own name false is other = λ same. other (same_Some own name (sym is ∙ same))

-- Whether the name at a place is the one asked for.
pub name-at : (names : List (Bor (List ℕ))) (i : ℕ) (own : Bor (List ℕ)) (name : List ℕ) (test : Bool) → i < length names → own ≡ get_or names i own → test ≡ bytes_eq own.now name
    → MatchBool test (slice_get (map (λ n. n.now) names) i ≡ Some name) (¬ (slice_get (map (λ n. n.now) names) i ≡ Some name))
name-at names i own name test lt is tests =
    named _ own.now name test (slice_get-map (λ n. n.now) names i ∙ ap (option_map (λ n. n.now)) (slice_get_read names _ i own refl lt is)) (own_name own.now name test (sym tests))

pub name-past : (names : List (Bor (List ℕ))) (i : ℕ) (name : List ℕ) → length names ≤ i → ¬ (slice_get (map (λ n. n.now) names) i ≡ Some name)
name-past names i name past same =
    let none : slice_get (map (λ (n : Bor (List ℕ)). n.now) names) i ≡ None = slice_get-map (λ n. n.now) names i ∙ ap (option_map (λ n. n.now)) (slice_get_past names i past) in
    let never : None ≡ Some name = sym none ∙ same in
    absurd cc

-- ---- several conditions

module _ {E : Type 0} (answer : E → List ℕ → Option Captures) (request : RequestView) where
  abbrev HoldsOf : Condition E → Type 0
  HoldsOf one = Holds answer request (condition_view one)

  abbrev EachOf : List (Condition E) → Type 0
  EachOf conditions = EachHolds answer request (conditions_view conditions)

  abbrev SomeOf : List (Condition E) → Type 0
  SomeOf conditions = SomeHolds answer request (conditions_view conditions)

  each-more : (conditions : List (Condition E)) (i : ℕ) (d : Condition E) → i < length conditions → EachOf (take i conditions) → HoldsOf (get_or conditions i d) → EachOf (take (suc i) conditions)
  each-more [] i d lt each holds = absurd (omega (arith, lt))
  each-more (one ∷ rest) zero d lt each holds = (holds, tt)
  each-more (one ∷ rest) (suc i) d lt each holds = (each.0, each-more rest i d (omega (arith, lt)) each.1 holds)

  each-at : (conditions : List (Condition E)) (i : ℕ) (d : Condition E) → i < length conditions → EachOf conditions → HoldsOf (get_or conditions i d)
  each-at [] i d lt each = absurd (omega (arith, lt))
  each-at (one ∷ rest) zero d lt each = each.0
  each-at (one ∷ rest) (suc i) d lt each = each-at rest i d (omega (arith, lt)) each.1

  some-at : (conditions : List (Condition E)) (i : ℕ) (d : Condition E) → i < length conditions → HoldsOf (get_or conditions i d) → SomeOf conditions
  some-at [] i d lt holds = absurd (omega (arith, lt))
  some-at (one ∷ rest) zero d lt holds = inl holds
  some-at (one ∷ rest) (suc i) d lt holds = inr (some-at rest i d (omega (arith, lt)) holds)

  none-more : (conditions : List (Condition E)) (i : ℕ) (d : Condition E) → i < length conditions → ¬ SomeOf (take i conditions) → ¬ HoldsOf (get_or conditions i d) → ¬ SomeOf (take (suc i) conditions)
  none-more [] i d lt none fails = absurd (omega (arith, lt))
  none-more (one ∷ rest) zero d lt none fails = elim [ inl holds ↦ fails holds | inr holds ↦ holds ]
  none-more (one ∷ rest) (suc i) d lt none fails = elim [
    | inl holds ↦ none (inl holds)
    | inr holds ↦ none-more rest i d (omega (arith, lt)) (λ some. none (inr some)) fails holds
  ]

  asks-at : (conditions : List (Condition E)) (i : ℕ) (d : Condition E) → i < length conditions → AsksEngine answer request (condition_view (get_or conditions i d)) → SomeAskEngine answer request (conditions_view conditions)
  asks-at [] i d lt asks = absurd (omega (arith, lt))
  asks-at (one ∷ rest) zero d lt asks = inl asks
  asks-at (one ∷ rest) (suc i) d lt asks = inr (asks-at rest i d (omega (arith, lt)) asks)

  -- The steps of going over conditions, of which `one` is at the place `i`.
  module _ (conditions : List (Condition E)) (i : ℕ) (one : Condition E) (lt : i < length conditions) (is : one ≡ get_or conditions i one) where
    pub each-step : EachOf (take i conditions) → HoldsOf one → EachOf (take (i + 1) conditions)
    each-step each holds = rw add-one (each-more conditions i one lt each (subst HoldsOf is holds))

    pub each-fails : ¬ HoldsOf one → ¬ EachOf conditions
    each-fails fails each = fails (subst HoldsOf (sym is) (each-at conditions i one lt each))

    pub some-step : ¬ SomeOf (take i conditions) → ¬ HoldsOf one → ¬ SomeOf (take (i + 1) conditions)
    some-step none fails = rw add-one (none-more conditions i one lt none (λ holds. fails (subst HoldsOf (sym is) holds)))

    pub some-found : HoldsOf one → SomeOf conditions
    some-found holds = some-at conditions i one lt (subst HoldsOf is holds)

    pub asks : AsksEngine answer request (condition_view one) → SomeAskEngine answer request (conditions_view conditions)
    asks its = asks-at conditions i one lt (subst (λ (c : Condition E). AsksEngine answer request (condition_view c)) is its)
