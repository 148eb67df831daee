-- Lemmas on the methods of two routes, on values that are kept, and on routes never reached.
use Rattle.std.proofs.Common.{◌≡◌, ◌∙◌, ◌↔◌, ◌<◌, ◌≤◌, ◌+◌, ℕ, zero, suc, Bool, true, false, List, [], ◌∷◌, ◌++◌, ap, append-nil, arith, if◌then◌else◌, inl, inr, length, map, refl, subst, sym}
use Rattle.std.proofs.lemmas.Bool.{cases_lt, false≢true}
use Rattle.std.proofs.lemmas.List.{map-append}
use Rattle.std.proofs.lemmas.List.Elements.{All-cons, All-head, All-map, All-nil, All-push, All-same, All-tail, All-weaker, Contains-append_left, Contains-push}
use Rattle.std.proofs.lemmas.Option.{same_Some, slice_get_within}
use Rattle.std.specs.List.{range_with_len}
use Rattle.std.specs.Prelude.{◌⊎◌, All, IsSomeAnd, IsTrue, MatchOption, None, Option, Some, String, slice_get}
use Rattle.std.specs.declared.alloc.Global.{Global}
use Rattle.urlpattern.proofs.RouteReachLemmas.{ascending-last}
use Rattle.urlpattern.specs.Conflicts.{AreKept, AreUnreached, HasRoute, IsOneUnreached, IsUnreachedAt, OfRoutes, ShareMethod, TakesAllOf}
use Rattle.urlpattern.specs.Routes.{HasMethod, Routes, Takes}
use Rattle.urlpattern.specs.declared.router.route.Route.{Route}
use Rattle.urlpattern.specs.declared.router.route_conflicts.Unreached.{Unreached}
use Rattle.urlpattern.specs.declared.router.route_conflicts.UnreachedRoute.{UnreachedRoute}
use Rattle.urlpattern_compare.specs.CoveringTogether.{AreAscending}
use Rattle.urlpattern_compare.specs.declared.candidates.Limits.{Limits}
use Rattle.urlpattern_compare.specs.declared.common_texts.PatternAutomata.{PatternAutomata}
use Rattle.urlpattern_pattern.specs.UrlPatterns.{UrlPattern}
use Rattle.urlpattern_syntax.specs.Text.{text_of}

-- ---- the methods of two routes

-- A route with this method, or without one, takes the method that is asked for.
abbrev TakesBy : (method : List ℕ) → Option (String Global) → Type 0
TakesBy method found = MatchOption found (Unit {0}) (λ own. text_of own ≡ method)

same-method : (own : String Global) (other : Option (String Global)) → IsSomeAnd other (λ its. text_of its ≡ text_of own) → (method : List ℕ) → TakesBy method other → text_of own ≡ method
same-method own None has method takes = absurd has
same-method own (Some its) has method takes = sym has ∙ takes

-- A route that takes only methods that are `own` has this method.
only-own : (own : String Global) (other : Option (String Global)) → ((method : List ℕ) → TakesBy method other → text_of own ≡ method) → IsSomeAnd other (λ its. text_of its ≡ text_of own)
only-own own None all = (let longer = ap (λ (text : List ℕ). length text) (all (0 ∷ text_of own) tt) in absurd (omega (arith, longer)))
only-own own (Some its) all = sym (all (text_of its) refl)

some-taken : (other : Option (String Global)) → (method : List ℕ) × TakesBy method other
some-taken None = ([], tt)
some-taken (Some its) = (text_of its, refl)

module _ {T : Type 0} (route other : Route T) where
  pub all-of_own : (own : String Global) (text : List ℕ) (is : Bool) → route.method ≡ Some own → text ≡ text_of own → (IsTrue is ↔ HasMethod text other) → (IsTrue is ↔ TakesAllOf route other)
  all-of_own own text is has same decides = (
    λ yes method takes. subst (TakesBy method) (sym has) (same-method own other.method (subst (λ (t : List ℕ). HasMethod t other) same (decides.0 yes)) method takes),
    λ all. decides.1 (subst (λ (t : List ℕ). HasMethod t other) (sym same) (only-own own other.method (λ method takes. subst (TakesBy method) has (all method takes)))),
  )

  pub all-of_any : route.method ≡ None → (IsTrue true ↔ TakesAllOf route other)
  all-of_any none = (λ yes method takes. subst (TakesBy method) (sym none) tt, λ all. refl)

  pub share-own : (own : String Global) (text : List ℕ) (is : Bool) → route.method ≡ Some own → text ≡ text_of own → (IsTrue is ↔ Takes text other) → (IsTrue is ↔ ShareMethod route other)
  share-own own text is has same decides = (
    λ yes. (text, subst (TakesBy text) (sym has) (sym same), decides.0 yes),
    λ (method, takes, also).
        let own_is : text_of own ≡ method = subst (TakesBy method) has takes in
        decides.1 (subst (λ (t : List ℕ). Takes t other) (sym (same ∙ own_is)) also),
  )

  pub share-any : route.method ≡ None → (IsTrue true ↔ ShareMethod route other)
  share-any none = (λ yes. let (method, takes) = some-taken other.method in (method, subst (TakesBy method) (sym none) tt, takes), λ shared. refl)

-- What is decided of the routes at two indices.
pub both-at : {E T : Type 0} (routes : Routes E T) (Are : Route T → Route T → Type 0) (index other : ℕ) (one another : UrlPattern E × Route T) (is : Bool) → slice_get routes index ≡ Some one → slice_get routes other ≡ Some another
    → (IsTrue is ↔ Are one.1 another.1) → (IsTrue is ↔ OfRoutes routes Are index other)
both-at {E} {T} routes Are index other one another is here there decides = (
  λ yes. (one, another, here, there, decides.0 yes),
  λ (own, its, own_here, its_there, are).
      let same : own ≡ one = same_Some own one (sym own_here ∙ here) in
      let also : its ≡ another = same_Some its another (sym its_there ∙ there) in
      decides.1 (subst (λ (it : UrlPattern E × Route T). Are it.1 another.1) same (subst (λ (it : UrlPattern E × Route T). Are own.1 it.1) also are)),
)

-- ---- values that are kept

module _ {X : Type 0} (Is : X → Type 0) where
  kept-passed : (values kept : List X) (last : X) → ¬ Is last → AreKept Is values kept → AreKept Is (values ++ last ∷ []) kept
  kept-passed [] kept last lacks none = inl (lacks, none)
  kept-passed (value ∷ values) kept last lacks (inl (passed, rest)) = inl (passed, kept-passed values kept last lacks rest)
  kept-passed (value ∷ values) kept last lacks (inr (holds, others, is, rest)) = inr (holds, others, is, kept-passed values others last lacks rest)

  kept-added : (values kept : List X) (last : X) → Is last → AreKept Is values kept → AreKept Is (values ++ last ∷ []) (kept ++ last ∷ [])
  kept-added [] kept last holds none = inr (holds, [], ap (λ (them : List X). them ++ last ∷ []) none, refl)
  kept-added (value ∷ values) kept last holds (inl (passed, rest)) = inl (passed, kept-added values kept last holds rest)
  kept-added (value ∷ values) kept last holds (inr (own, others, is, rest)) = inr (own, others ++ last ∷ [], ap (λ (them : List X). them ++ last ∷ []) is, kept-added values others last holds rest)

  -- A further value is kept if it is one of those.
  pub kept-more : (values kept new : List X) (last : X) (is : Bool) → (IsTrue is ↔ Is last) → new ≡ kept ++ (if is then last ∷ [] else []) → AreKept Is values kept → AreKept Is (values ++ last ∷ []) new
  kept-more values kept new last true decides grown are = subst (AreKept Is (values ++ last ∷ [])) (sym grown) (kept-added values kept last (decides.0 refl) are)
  kept-more values kept new last false decides grown are =
      subst (AreKept Is (values ++ last ∷ [])) (sym (grown ∙ append-nil kept)) (kept-passed values kept last (λ holds. false≢true (decides.1 holds)) are)

  -- What holds for all values holds for those that are kept, which are some of them.
  pub kept-all : (P : X → Type 0) (values kept : List X) → All P values → AreKept Is values kept → All (λ value. P value × Is value) kept
  kept-all P [] kept all none = All-same (λ value. P value × Is value) kept [] none (All-nil (λ value. P value × Is value))
  kept-all P (value ∷ values) kept all (inl (passed, rest)) = kept-all P values kept (All-tail P value values all) rest
  kept-all P (value ∷ values) kept all (inr (holds, others, is, rest)) =
      All-same (λ value. P value × Is value) kept (value ∷ others) is
      (All-cons (λ value. P value × Is value) value others (All-head P value values all, holds) (kept-all P values others (All-tail P value values all) rest))

-- ---- the indices before one

range-suc : (a n : ℕ) → range_with_len a (suc n) ≡ range_with_len a n ++ (a + n) ∷ []
range-suc a zero = (let same : a ≡ a + 0 = omega arith in ap (λ (k : ℕ). k ∷ []) same)
range-suc a (suc n) =
    let same : a + 1 + n ≡ a + suc n = omega arith in
    ap (λ (l : List ℕ). a ∷ l) (range-suc (a + 1) n ∙ ap (λ (k : ℕ). range_with_len (a + 1) n ++ k ∷ []) same)

pub range-more : (n : ℕ) → range_with_len 0 (n + 1) ≡ range_with_len 0 n ++ n ∷ []
range-more n =
    let next : n + 1 ≡ suc n = omega arith in
    let last : 0 + n ≡ n = omega arith in
    ap (range_with_len 0) next ∙ range-suc 0 n ∙ ap (λ (k : ℕ). range_with_len 0 n ++ k ∷ []) last

range-within : (a n : ℕ) → All (λ k. k < a + n) (range_with_len a n)
range-within a zero = All-nil (λ k. k < a + zero)
range-within a (suc n) =
    All-cons (λ k. k < a + suc n) a (range_with_len (a + 1) n) (omega arith)
    (All-weaker (λ k. k < a + 1 + n) (λ k. k < a + suc n) (λ k lt. omega (arith, lt)) (range_with_len (a + 1) n) (range-within (a + 1) n))

pub range-below : (n : ℕ) → All (λ k. k < n) (range_with_len 0 n)
range-below n = All-weaker (λ k. k < 0 + n) (λ k. k < n) (λ k lt. omega (arith, lt)) (range_with_len 0 n) (range-within 0 n)

-- ---- routes that are never reached

abbrev route_of : UnreachedRoute → ℕ
route_of one = one.route

module _ {E T : Type 0} (limits : Limits) (routes : Routes E T) (all : List PatternAutomata) where
  -- What is known of the routes before an index.
  pub record AreUnreachedBelow (end : ℕ) (found : List UnreachedRoute) : Type 0 where
    pub unreached : All (IsOneUnreached limits routes all) found
    pub others : (index : ℕ) (asked : PatternAutomata) → index < end → slice_get all index ≡ Some asked → HasRoute found index ⊎ IsUnreachedAt limits routes all index asked None
    pub order : AreAscending (map route_of found)
    pub below : All (λ one. route_of one < end) found

  pub none-unreached : AreUnreachedBelow 0 []
  none-unreached = record {
    unreached = All-nil (IsOneUnreached limits routes all);
    others = λ index asked lt there. absurd (omega (arith, lt));
    order = tt;
    below = All-nil (λ one. route_of one < 0);
  }

  same_asked : (index end : ℕ) (asked own : PatternAutomata) → index ≡ end → slice_get all end ≡ Some asked → slice_get all index ≡ Some own → asked ≡ own
  same_asked index end asked own same there own_there = same_Some asked own (sym there ∙ ap (slice_get all) (sym same) ∙ own_there)

  reached-more : (end : ℕ) (found : List UnreachedRoute) (asked : PatternAutomata) → slice_get all end ≡ Some asked → IsUnreachedAt limits routes all end asked None → AreUnreachedBelow end found
      → AreUnreachedBelow (end + 1) found
  reached-more end found asked there reached so = record {
    unreached = so.unreached;
    others = λ index own lt own_there. elim (cases_lt index end) [
      | inl earlier ↦ so.others index own earlier own_there
      | inr later ↦
          let same : index ≡ end = omega (arith, lt, later) in
          inr (subst (λ (one : PatternAutomata). IsUnreachedAt limits routes all index one None) (same_asked index end asked own same there own_there)
          (subst (λ (k : ℕ). IsUnreachedAt limits routes all k asked None) (sym same) reached))
    ];
    order = so.order;
    below = All-weaker (λ one. route_of one < end) (λ one. route_of one < end + 1) (λ one lt. omega (arith, lt)) found so.below;
  }

  unreached-more : (end : ℕ) (found : List UnreachedRoute) (asked : PatternAutomata) (why : Unreached) → slice_get all end ≡ Some asked → IsUnreachedAt limits routes all end asked (Some why)
      → AreUnreachedBelow end found → AreUnreachedBelow (end + 1) (found ++ record { route = end; found = why } ∷ [])
  unreached-more end found asked why there unreached so =
      let last : UnreachedRoute = record { route = end; found = why } in
      let less : end < end + 1 = omega arith in
      record {
        unreached = All-push (IsOneUnreached limits routes all) found last so.unreached (asked, there, unreached);
        others = λ index own lt own_there. elim (cases_lt index end) [
          | inl earlier ↦ elim (so.others index own earlier own_there) [
            | inl (one, has, is) ↦ inl (one, Contains-append_left found (last ∷ []) one has, is)
            | inr reached ↦ inr reached
          ]
          | inr later ↦
              let same : end ≡ index = omega (arith, lt, later) in
              inl (last, Contains-push found last, same)
        ];
        order = subst AreAscending (sym (map-append route_of found (last ∷ []))) (ascending-last (map route_of found) end so.order (All-map (λ index. index < end) route_of found so.below));
        below = All-push (λ one. route_of one < end + 1) found last
            (All-weaker (λ one. route_of one < end) (λ one. route_of one < end + 1) (λ one lt. omega (arith, lt)) found so.below) less;
      }

  -- The route at an index is passed over or added.
  pub route-more : (end : ℕ) (old new : List UnreachedRoute) (asked : PatternAutomata) (why : Option Unreached) → slice_get all end ≡ Some asked → IsUnreachedAt limits routes all end asked why
      → MatchOption why (new ≡ old) (λ one. new ≡ old ++ record { route = end; found = one } ∷ []) → AreUnreachedBelow end old → AreUnreachedBelow (end + 1) new
  route-more end old new asked None there reached same so = subst (AreUnreachedBelow (end + 1)) (sym same) (reached-more end old asked there reached so)
  route-more end old new asked (Some why) there unreached grown so = subst (AreUnreachedBelow (end + 1)) (sym grown) (unreached-more end old asked why there unreached so)

  -- After all routes.
  pub all-unreached : (end : ℕ) (found : List UnreachedRoute) → length all ≤ end → AreUnreachedBelow end found → AreUnreached limits routes all found
  all-unreached end found whole so = record {
    unreached = so.unreached;
    others = λ index asked there. let within = slice_get_within all index asked there in so.others index asked (omega (arith, whole, within)) there;
    order = so.order;
  }
