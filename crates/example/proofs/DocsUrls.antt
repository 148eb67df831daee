-- The outcome of the pattern `https://example.com/:lang(en|fr)?/docs` for a URL, by the parts of
-- the URL.
use Rattle.std.proofs.Common.{◌≡◌, ℕ, List, [], ◌∷◌, sym, ap, ◌∙◌, subst, None, Some}
use Rattle.std.specs.Option.{option_flatten}
use Rattle.std.specs.Prelude.{Option, codes}
use Rattle.std.specs.Str.{chars}
use Rattle.example.specs.Docs.{IsDocs, IsDocsPath, IsNoDocs, docs_text}
use Rattle.example.specs.Sites.{IsOnSite}
use Rattle.example.specs.Users.{default_asked}
use Rattle.url.specs.Parts.{IsValid, Parts}
use Rattle.urlpattern.proofs.DocsExample as paths
use Rattle.urlpattern.proofs.DocsExample.{docs_captured, docs_matched, docs_route}
use Rattle.urlpattern.proofs.SiteRoutes.{path_characters, route_asked, route_matched, route_unmatched}
use Rattle.urlpattern.specs.ComponentName.{ComponentName}
use Rattle.urlpattern.specs.ComponentName.TheVariants.{Pathname}
use Rattle.urlpattern.specs.FromString.{IsPatternOfText}
use Rattle.urlpattern.specs.Inheritance.{texts_of_url}
use Rattle.urlpattern.specs.Match.{CallsAnEngine, HasNoMatch, IsMatch}
use Rattle.urlpattern.specs.PartMeaning.{Captures}
use Rattle.urlpattern.specs.PatternRegexp.{PatternRegexp}
use Rattle.urlpattern.specs.PatternRegexps.{pattern_engine, pattern_result}
use Rattle.urlpattern.specs.Patterns.{PatternView}
use Rattle.urlpattern.specs.ResultViews.{ResultView, captured_text, group_of}
use Rattle.urlpattern.specs.UrlPatternMatchInput.TheVariants as inputs
use Rattle.urlpattern.specs.UrlTexts.{EachIsLine}

-- The paths are those of the library's example.
path_of : (path : List ℕ) (language : Option (List ℕ)) → paths.IsDocsPath path language → IsDocsPath path language
path_of path None is = is
path_of path (Some language) is = is

of_path : (path : List ℕ) (language : Option (List ℕ)) → IsDocsPath path language → paths.IsDocsPath path language
of_path path None is = is
of_path path (Some language) is = is

module _ (pattern : PatternView PatternRegexp) (is : IsPatternOfText pattern_engine docs_text None default_asked pattern) (url : Parts) (valid : IsValid url) (lines : EachIsLine (texts_of_url url)) where
  -- A match is that of a page, whose language the group captures.
  pub docs_found : (result : ComponentName → ResultView) → IsMatch pattern_result pattern (inputs.Url url) result → (language : Option (List ℕ)) →
      captured_text (result Pathname) (chars (codes "lang")) ≡ language → IsDocs url language
  unfolding chars
  docs_found result match language found =
      let (site, (captures, captured, groups)) = route_matched docs_route pattern is url valid lines result match in
      let (own, path, are) = docs_captured url.path captures (path_characters url valid lines) captured in
      let same : own ≡ language =
      sym (ap option_flatten (groups (codes "lang") ∙ ap (λ (all : Captures). group_of (codes "lang" ∷ []) all (codes "lang")) are)) ∙ found in
      subst (IsDocs url) same (site, path_of url.path own path)

  -- A URL without a match is not that of a page.
  pub docs_none : HasNoMatch pattern_result pattern (inputs.Url url) → IsNoDocs url
  unfolding chars
  docs_none unmatched = λ language docs.
      route_unmatched docs_route pattern is url valid lines unmatched docs.0 (docs_matched url.path language (of_path url.path language docs.1))

  -- An engine is called only for a URL of the site.
  pub docs_asked : CallsAnEngine pattern_result pattern (texts_of_url url) → IsOnSite url
  unfolding chars
  docs_asked = route_asked docs_route pattern is url valid lines
