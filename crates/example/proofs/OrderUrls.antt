-- The outcome of the pattern `https://example.com/orders/:id(\d+)` for a URL, by the parts of the
-- URL.
use Rattle.std.proofs.Common.{◌≡◌, ℕ, List, [], ◌∷◌, sym, ap, ◌∙◌, subst, inl, inr, None, Some}
use Rattle.std.specs.Option.{option_flatten}
use Rattle.std.specs.Prelude.{codes}
use Rattle.std.specs.Str.{chars}
use Rattle.example.specs.NamedUsers.{NamesNone, NamesUser}
use Rattle.example.specs.Orders.{IsNoOrder, IsOrder, orders_text}
use Rattle.example.specs.Sites.{IsOnSite}
use Rattle.example.specs.Users.{default_asked}
use Rattle.url.specs.Parts.{IsValid, Parts}
use Rattle.urlpattern.proofs.OrdersExample.{order_captured, order_matched, orders_route}
use Rattle.urlpattern.proofs.SiteRoutes.{path_ascii, path_characters, route_asked, route_matched, route_unmatched}
use Rattle.urlpattern.specs.ComponentName.{ComponentName}
use Rattle.urlpattern.specs.ComponentName.TheVariants.{Pathname}
use Rattle.urlpattern.specs.FromString.{IsPatternOfText}
use Rattle.urlpattern.specs.Inheritance.{texts_of_url}
use Rattle.urlpattern.specs.Match.{CallsAnEngine, IsMatch}
use Rattle.urlpattern.specs.PartMeaning.{Captures}
use Rattle.urlpattern.specs.PatternRegexp.{PatternRegexp}
use Rattle.urlpattern.specs.PatternRegexps.{pattern_engine, pattern_result}
use Rattle.urlpattern.specs.Patterns.{PatternView}
use Rattle.urlpattern.specs.ResultViews.{ResultView, captured_text, group_of}
use Rattle.urlpattern.specs.UrlPatternMatchInput.TheVariants as inputs
use Rattle.urlpattern.specs.UrlTexts.{EachIsLine}

module _ (pattern : PatternView PatternRegexp) (is : IsPatternOfText pattern_engine orders_text None default_asked pattern) (url : Parts) (valid : IsValid url) (lines : EachIsLine (texts_of_url url)) where
  -- A match is that of an order, whose id the group captures.
  order_found : (result : ComponentName → ResultView) → IsMatch pattern_result pattern (inputs.Url url) result →
      (id : List ℕ) × IsOrder url id × (captured_text (result Pathname) (chars (codes "id")) ≡ Some id)
  unfolding chars
  order_found result match =
      let (site, (captures, captured, groups)) = route_matched orders_route pattern is url valid lines result match in
      let (id, order, are) = order_captured url.path captures (path_characters url valid lines) (path_ascii url valid) captured in (
        id,
        record { site = site; path = order.path; not_empty = order.not_empty; digits = order.digits },
        ap option_flatten (groups (codes "id") ∙ ap (λ (own : Captures). group_of (codes "id" ∷ []) own (codes "id")) are),
      )

  -- A capture is the id of an order.
  pub order_named : (id : List ℕ) → NamesUser pattern_result pattern url (Some id) → IsOrder url id
  order_named id (result, match, captured) =
      let (own, order, found) = order_found result match in
      let both : Some own ≡ Some id = sym found ∙ captured in
      let same : own ≡ id = cc both in
      subst (IsOrder url) same order

  -- A URL without a capture is not that of an order.
  pub order_named_none : NamesNone pattern_result pattern url → IsNoOrder url
  unfolding chars
  order_named_none (inl unmatched) = λ id order.
      route_unmatched orders_route pattern is url valid lines unmatched order.site
      (order_matched url.path id (path_characters url valid lines) (record { path = order.path; not_empty = order.not_empty; digits = order.digits }))
  order_named_none (inr (result, match, captured)) = λ id order.
      let (own, also, found) = order_found result match in
      let same : Some own ≡ None = sym found ∙ captured in absurd (cc same)

  -- An engine is called only for a URL of the site.
  pub order_asked : CallsAnEngine pattern_result pattern (texts_of_url url) → IsOnSite url
  unfolding chars
  order_asked = route_asked orders_route pattern is url valid lines
