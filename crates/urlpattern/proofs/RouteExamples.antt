-- Worked examples of what a request with the method `HEAD` gets, where routes for `GET` serve it.
use Rattle.std.proofs.Common.{[], ◌≡◌, ◌∙◌, ◌∷◌, zero, suc, ℕ, List, true, ap, arith, get_or, inl, inr, length, refl, subst, sym}
use Rattle.std.proofs.lemmas.Option.{same_Some, slice_get_within}
use Rattle.std.specs.Borrow.{Bor}
use Rattle.std.specs.Prelude.{◌≢◌, ◌⊎◌, IfSome, IsSomeAnd, MatchOption, None, Option, Some, String, codes, slice_get}
use Rattle.std.specs.declared.alloc.Global.{Global}
use Rattle.urlpattern.specs.Routes.{HasMethod, HasMethodAt, IsRouteFound, IsServed, IsServedAsHead, NoneServesBefore, Routes, Serves, Takes}
use Rattle.urlpattern.specs.declared.router.UrlPatternRouter.{UrlPatternRouter}
use Rattle.urlpattern.specs.declared.router.route.Route.{Route}
use Rattle.urlpattern_components.specs.Eight.{Texts}
use Rattle.urlpattern_matches.specs.declared.captures.UrlPatternCaptures.{UrlPatternCaptures}
use Rattle.urlpattern_meaning.specs.PartMeaning.{Captures}
use Rattle.urlpattern_pattern.specs.UrlPatterns.{UrlPattern}
use Rattle.urlpattern_syntax.specs.Text.{text_of}

-- ---- the method of a route

get-head : ¬ (codes "GET" ≡ codes "HEAD")
get-head is = absurd (omega (arith, ap (λ (text : List ℕ). get_or text 0 0) is))

lacks-head : (method : Option (String Global)) → IsSomeAnd method (λ own. text_of own ≡ codes "GET") → ¬ MatchOption method (Unit {0}) (λ own. text_of own ≡ codes "HEAD")
lacks-head None get head = get
lacks-head (Some own) get head = get-head (sym get ∙ head)

any-takes : (asked : List ℕ) (method : Option (String Global)) → method ≡ None → MatchOption method (Unit {0}) (λ own. text_of own ≡ asked)
any-takes asked None is = tt
any-takes asked (Some own) is = absurd (cc)

any-has_none : (asked : List ℕ) (method : Option (String Global)) → method ≡ None → ¬ IsSomeAnd method (λ own. text_of own ≡ asked)
any-has_none asked None is has = has
any-has_none asked (Some own) is has = absurd (cc)

own-takes : (asked : List ℕ) (method : Option (String Global)) → IsSomeAnd method (λ own. text_of own ≡ asked) → MatchOption method (Unit {0}) (λ own. text_of own ≡ asked)
own-takes asked None has = tt
own-takes asked (Some own) has = has

takes-own : (asked : List ℕ) (method : Option (String Global)) → method ≢ None → MatchOption method (Unit {0}) (λ own. text_of own ≡ asked) → IsSomeAnd method (λ own. text_of own ≡ asked)
takes-own asked None some takes = absurd (some refl)
takes-own asked (Some own) some takes = takes

module _ {E T : Type 0} (answer : E → List ℕ → Option Captures) (texts : Texts) where
  module _ (routes : Routes E T) (Is Other : Route T → Type 0) where
    serves-by : (index : ℕ) (value : Bor T) (captures : UrlPatternCaptures) → ((entry : UrlPattern E × Route T) → slice_get routes index ≡ Some entry → Is entry.1 → Other entry.1)
        → Serves answer routes Is texts (index, value, captures) → Serves answer routes Other texts (index, value, captures)
    serves-by index value captures so (entry, there, is, value_is, match, groups) = (entry, there, so entry there is, value_is, match, groups)

    none-serves_by : (end : ℕ) → ((route : Route T) → Other route → Is route) → NoneServesBefore answer routes Is texts end → NoneServesBefore answer routes Other texts end
    none-serves_by end so none = λ index entry lt there. elim (none index entry lt there) [
      | inl refused ↦ inl (λ other. refused (so entry.1 other))
      | inr unmatched ↦ inr unmatched
    ]

  -- ---- a table where each route has a method

  module _ (routes : Routes E T) (each : (index : ℕ) (entry : UrlPattern E × Route T) → slice_get routes index ≡ Some entry → entry.1.method ≢ None) where
    found-own : (asked : List ℕ) (found : Option (ℕ × Bor T × UrlPatternCaptures)) → IsRouteFound answer routes (Takes asked) texts found → IsRouteFound answer routes (HasMethod asked) texts found
    found-own asked None none = none-serves_by routes (Takes asked) (HasMethod asked) (length routes) (λ route has. own-takes asked route.method has) none
    found-own asked (Some (index, value, captures)) (serves, none) = (
      serves-by routes (Takes asked) (HasMethod asked) index value captures (λ entry there takes. takes-own asked entry.1.method (each index entry there) takes) serves,
      none-serves_by routes (Takes asked) (HasMethod asked) index (λ route has. own-takes asked route.method has) none,
    )

    own-found : (found : Option (ℕ × Bor T × UrlPatternCaptures)) → IsRouteFound answer routes (HasMethod (codes "HEAD")) texts found → IsSomeAnd found (λ own. HasMethodAt routes (codes "HEAD") own.0)
        → IsSomeAnd found (λ own. IsRouteFound answer routes (HasMethod (codes "HEAD")) texts (Some own))
    own-found None is has = has
    own-found (Some own) is has = is

    none-own : (first : Option (ℕ × Bor T × UrlPatternCaptures)) → IsRouteFound answer routes (HasMethod (codes "HEAD")) texts first → IfSome first (λ any. ¬ HasMethodAt routes (codes "HEAD") any.0)
        → IsRouteFound answer routes (HasMethod (codes "HEAD")) texts None
    none-own None is lacks = is
    none-own (Some (index, value, captures)) ((entry, there, has, value_is, match, groups), none) lacks = absurd (lacks (entry, there, has))

    -- The first route with the method `HEAD` serves it or, if there is none, the first for `GET`.
    pub head_gets_its_own_or_get : (found : Option (ℕ × Bor T × UrlPatternCaptures)) → IsServedAsHead answer routes texts found
        → IsSomeAnd found (λ own. IsRouteFound answer routes (HasMethod (codes "HEAD")) texts (Some own))
        ⊎ (IsRouteFound answer routes (HasMethod (codes "HEAD")) texts None × IsRouteFound answer routes (HasMethod (codes "GET")) texts found)
    head_gets_its_own_or_get found (inl (is, has)) = inl (own-found found (found-own (codes "HEAD") found is) has)
    head_gets_its_own_or_get found (inr ((first, is, lacks), get)) = inr (none-own first (found-own (codes "HEAD") first is) lacks, found-own (codes "GET") found get)

  -- ---- tables of two routes

  module _ (one other : UrlPattern E × Route T) (value : Bor T) (captures : UrlPatternCaptures) where
    abbrev both : UrlPatternRouter T E
    both = record { routes = one ∷ other ∷ []; head_as_get = true }

    first-has : (asked : List ℕ) → HasMethodAt both.routes asked 0 → HasMethod asked one.1
    first-has asked (entry, there, has) = subst (λ (it : UrlPattern E × Route T). HasMethod asked it.1) (sym (same_Some one entry there)) has

    neither : ¬ HasMethod (codes "HEAD") one.1 → ¬ HasMethod (codes "HEAD") other.1 → (index : ℕ) → ¬ HasMethodAt both.routes (codes "HEAD") index
    neither first second zero has = first (first-has (codes "HEAD") has)
    neither first second (suc zero) (entry, there, has) = second (subst (λ (it : UrlPattern E × Route T). HasMethod (codes "HEAD") it.1) (sym (same_Some other entry there)) has)
    neither first second (suc (suc k)) (entry, there, has) = let within = slice_get_within both.routes (suc (suc k)) entry there in absurd (omega (arith, within))

    passed : ((index : ℕ) → ¬ HasMethodAt both.routes (codes "HEAD") index) → (first : Option (ℕ × Bor T × UrlPatternCaptures)) → IfSome first (λ any. ¬ HasMethodAt both.routes (codes "HEAD") any.0)
    passed none None = tt
    passed none (Some any) = none any.0

    nothing-before : (Is : Route T → Type 0) → NoneServesBefore answer both.routes Is texts 0
    nothing-before Is = λ index entry lt there. absurd (omega (arith, lt))

    -- Before a route for every method, one for `GET` serves `HEAD`.
    pub head_gets_get_before_any : HasMethod (codes "GET") one.1 → other.1.method ≡ None → (first : Option (ℕ × Bor T × UrlPatternCaptures)) → IsRouteFound answer both.routes (Takes (codes "HEAD")) texts first
        → Serves answer both.routes (Takes (codes "GET")) texts (0, value, captures) → IsServed answer both (codes "HEAD") texts (Some (0, value, captures))
    head_gets_get_before_any is_get is_any first is serves = record {
      head = λ _.
          let none = neither (λ has. lacks-head one.1.method is_get (own-takes (codes "HEAD") one.1.method has)) (any-has_none (codes "HEAD") other.1.method is_any) in
          inr ((first, is, passed none first), (serves, nothing-before (Takes (codes "GET"))));
      other = λ no. absurd (no (refl, refl));
    }

    -- A route for `HEAD` serves it, though one for `GET` is before it.
    pub head_gets_its_own : HasMethod (codes "GET") one.1 → Serves answer both.routes (HasMethod (codes "HEAD")) texts (1, value, captures) → IsServed answer both (codes "HEAD") texts (Some (1, value, captures))
    head_gets_its_own is_get (entry, there, has, value_is, match, groups) = record {
      head = λ _. inl (
        (
          (entry, there, own-takes (codes "HEAD") entry.1.method has, value_is, match, groups),
          λ index earlier lt is.
              let same : index ≡ 0 = omega (arith, lt) in
              let first : one ≡ earlier = same_Some one earlier (subst (λ at. slice_get both.routes at ≡ Some earlier) same is) in
              inl (subst (λ (it : UrlPattern E × Route T). ¬ Takes (codes "HEAD") it.1) first (lacks-head one.1.method is_get)),
        ),
        (entry, there, has),
      );
      other = λ no. absurd (no (refl, refl));
    }

    -- A route for every method serves `HEAD`, though one for `HEAD` is after it.
    pub head_gets_any_before_its_own : one.1.method ≡ None → Serves answer both.routes (λ route. route.method ≡ None) texts (0, value, captures) → IsServed answer both (codes "HEAD") texts (Some (0, value, captures))
    head_gets_any_before_its_own is_any serves =
        let by : (asked : List ℕ) → Serves answer both.routes (Takes asked) texts (0, value, captures) = λ asked.
        serves-by both.routes (λ route. route.method ≡ None) (Takes asked) 0 value captures (λ entry there none. any-takes asked entry.1.method none) serves in
        record {
          head = λ _. inr (
            (Some (0, value, captures), (by (codes "HEAD"), nothing-before (Takes (codes "HEAD"))), λ has. any-has_none (codes "HEAD") one.1.method is_any (first-has (codes "HEAD") has)),
            (by (codes "GET"), nothing-before (Takes (codes "GET"))),
          );
          other = λ no. absurd (no (refl, refl));
        }
