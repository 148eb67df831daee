-- Worked examples of which routes take each method of another one, and of which a route that is
-- never reached is covered by.
use Rattle.std.proofs.Common.{◌≡◌, ◌∙◌, ℕ, List, [], ◌∷◌, ap, arith, get_or, inl, inr, refl, subst, sym}
use Rattle.std.proofs.lemmas.Option.{same_Some}
use Rattle.std.specs.Prelude.{IsSomeAnd, MatchOption, None, Option, Some, String, codes, slice_get}
use Rattle.std.specs.declared.alloc.Global.{Global}
use Rattle.urlpattern.specs.Conflicts.{AreEarlier, OfRoutes, ShareMethod, TakesAllOf}
use Rattle.urlpattern.specs.Routes.{HasMethod, Routes}
use Rattle.urlpattern.specs.declared.router.route.Route.{Route}
use Rattle.urlpattern_pattern.specs.UrlPatterns.{UrlPattern}
use Rattle.urlpattern_syntax.specs.Text.{text_of}

get-post : ¬ (codes "GET" ≡ codes "POST")
get-post is = absurd (omega (arith, ap (λ (text : List ℕ). get_or text 0 0) is))

taken_by : (asked : List ℕ) (method : Option (String Global)) → IsSomeAnd method (λ own. text_of own ≡ asked) → MatchOption method (Unit {0}) (λ own. text_of own ≡ asked)
taken_by asked None has = tt
taken_by asked (Some own) has = has

taken_by_any : (asked : List ℕ) (method : Option (String Global)) → method ≡ None → MatchOption method (Unit {0}) (λ own. text_of own ≡ asked)
taken_by_any asked None none = tt
taken_by_any asked (Some own) none = absurd (cc)

only_taken : (own asked : List ℕ) (method : Option (String Global)) → IsSomeAnd method (λ its. text_of its ≡ own) → MatchOption method (Unit {0}) (λ its. text_of its ≡ asked) → own ≡ asked
only_taken own asked None has takes = absurd has
only_taken own asked (Some its) has takes = sym has ∙ takes

module _ {T : Type 0} (any get post : Route T) (is_any : any.method ≡ None) (is_get : HasMethod (codes "GET") get) (is_post : HasMethod (codes "POST") post) where
  -- A route for all methods takes each method that any route takes.
  pub any_takes_all : (route : Route T) → TakesAllOf any route
  any_takes_all route method takes = taken_by_any method any.method is_any

  -- A route for `GET` does not take each method that a route for all methods takes, though it is
  -- one of them.
  pub get_takes_not_all : ¬ TakesAllOf get any
  get_takes_not_all all = get-post (only_taken (codes "GET") (codes "POST") get.method is_get (all (codes "POST") (any_takes_all post (codes "POST") (taken_by (codes "POST") post.method is_post))))

  -- Routes for `GET` and `POST` share no method, and both share one with a route for all methods.
  pub get_and_post_share_none : ¬ ShareMethod get post
  get_and_post_share_none (method, takes, also) = get-post (only_taken (codes "GET") method get.method is_get takes ∙ sym (only_taken (codes "POST") method post.method is_post also))

  pub any_shares_with_get : ShareMethod any get
  any_shares_with_get = (codes "GET", any_takes_all get (codes "GET") (taken_by (codes "GET") get.method is_get), taken_by (codes "GET") get.method is_get)

  module _ {E : Type 0} (pattern : UrlPattern E) where
    -- A route for `GET`, one for all methods and one for `POST`, all with one pattern.
    abbrev table : Routes E T
    table = (pattern, get) ∷ (pattern, any) ∷ (pattern, post) ∷ []

    of-both : (Are : Route T → Route T → Type 0) (index other : ℕ) (one another : UrlPattern E × Route T) → slice_get table index ≡ Some one → slice_get table other ≡ Some another → OfRoutes table Are index other → Are one.1 another.1
    of-both Are index other one another at_index at_other (own, its, own_there, its_there, are) =
        subst (λ (it : UrlPattern E × Route T). Are it.1 another.1) (same_Some own one (sym own_there ∙ at_index))
        (subst (λ (it : UrlPattern E × Route T). Are own.1 it.1) (same_Some its another (sym its_there ∙ at_other)) are)

    -- The route for all methods is covered by none, since the one before it takes only `GET`.
    pub none_is_before_any : AreEarlier table 1 []
    none_is_before_any = inl ((λ all. get_takes_not_all (of-both TakesAllOf 0 1 (pattern, get) (pattern, any) refl refl all)), refl)

    post-by_get : ¬ TakesAllOf get post
    post-by_get all = get-post (only_taken (codes "GET") (codes "POST") get.method is_get (all (codes "POST") (taken_by (codes "POST") post.method is_post)))

    -- The route for `POST` is covered by the one for all methods.
    pub any_is_before_post : AreEarlier table 2 (1 ∷ [])
    any_is_before_post = inl (
      (λ all. post-by_get (of-both TakesAllOf 0 2 (pattern, get) (pattern, post) refl refl all)),
      inr (((pattern, any), (pattern, post), refl, refl, any_takes_all post), [], refl, refl),
    )
