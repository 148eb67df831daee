-- The page that a URL shows, by routes with values.
use Rattle.std.specs.Prelude.{◌≡◌, ℕ, List, codes, Option, None, Some, slice_get}
use Rattle.std.specs.Map.{values_of}
use Rattle.std.specs.Str.{chars}
use Rattle.url.specs.Parts.{Parts}
use Rattle.urlpattern.specs.ComponentName.TheVariants.{Pathname}
use Rattle.urlpattern.specs.FirstMatch.{FirstView, IsFirstMatch}
use Rattle.urlpattern.specs.ResultViews.{captured_text}
use Rattle.urlpattern.specs.PartMeaning.{Captures}
use Rattle.urlpattern.specs.PatternMaps.{entry_patterns}
use Rattle.urlpattern.specs.UrlPattern.{UrlPattern}
use Rattle.urlpattern.specs.UrlPatternMatchInput.TheVariants as inputs

-- The first route that matches the URL has the value `value`, and its group `id` of the path
-- captures `id`. `None`: the route has no such group, or the group takes no part.
abbrev pub ShowsValue : {E T : Type 0} → (answer : E → List ℕ → Option Captures)
    → (routes : List (UrlPattern E × T)) → Parts → (value : T) → (id : Option (List ℕ)) → Type 0
ShowsValue answer routes url value id =
    (first : FirstView) × IsFirstMatch answer (entry_patterns routes) (inputs.Url url) (Some first)
    × (slice_get (values_of routes) first.0 ≡ Some value)
    × (captured_text (first.1 Pathname) (chars (codes "id")) ≡ id)

-- No route matches the URL.
abbrev pub ShowsNothing : {E T : Type 0} → (answer : E → List ℕ → Option Captures)
    → (routes : List (UrlPattern E × T)) → Parts → Type 0
ShowsNothing answer routes url = IsFirstMatch answer (entry_patterns routes) (inputs.Url url) None
