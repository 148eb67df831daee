-- URLs under `https://example.com`, and patterns of them.
use Rattle.std.specs.Prelude.{◌≡◌, ℕ, List, codes, None, Some}
use Rattle.url.specs.Parts.{Parts}
use Rattle.url.specs.declared.host.Host.TheVariants.{Domain}
use Rattle.urlpattern.specs.FromString.{IsPatternOfText}
use Rattle.urlpattern.specs.Patterns.{pattern_view}
use Rattle.urlpattern.specs.PatternRegexps.{pattern_engine}
use Rattle.urlpattern.specs.PatternRegexp.{PatternRegexp}
use Rattle.urlpattern.specs.UrlPatterns.{UrlPattern}
use Rattle.example.specs.Users.{default_asked}

-- The URL has the scheme `https`, the host `example.com` and no port.
abbrev pub IsOnSite : Parts → Type 0
IsOnSite url =
    (url.scheme ≡ codes "https") × (url.host ≡ Some (Domain (codes "example.com")))
    × (url.port ≡ None)

-- The pattern is compiled from the constructor string `text` under the default options.
abbrev pub IsPatternOf : (text : List ℕ) → UrlPattern PatternRegexp → Type 0
IsPatternOf text pattern =
    IsPatternOfText pattern_engine text None default_asked (pattern_view pattern)
