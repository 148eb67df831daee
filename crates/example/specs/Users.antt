-- The URLs of users.
use Rattle.std.specs.Prelude.{◌≡◌, ◌≢◌, ℕ, false, List, [], ◌++◌, codes, None, Some, Ok, IsTrue}
use Rattle.std.specs.Str.{chars}
use Rattle.url.specs.Ascii.{slash}
use Rattle.url.specs.Parts.{Parts}
use Rattle.url.specs.declared.host.Host.TheVariants.{Domain}
use Rattle.urlpattern.specs.Canonical.{canonical_pathname}
use Rattle.urlpattern.specs.FromString.{IsPatternOfText}
use Rattle.urlpattern.specs.KeptParts.{KeepsPartsOfText}
use Rattle.urlpattern.specs.Patterns.{pattern_view}
use Rattle.urlpattern.specs.PatternRegexps.{pattern_engine}
use Rattle.urlpattern.specs.PatternRegexp.{PatternRegexp}
use Rattle.urlpattern.specs.RegexSyntax.TheVariants.{Rust}
use Rattle.urlpattern.specs.Text.{lacks}
use Rattle.urlpattern.specs.UrlPatternOptions.{UrlPatternOptions}
use Rattle.urlpattern.specs.UrlPatterns.{UrlPattern}

-- `url` is the URL of the user `id`: `https`, the host `example.com` without a port, and the path
-- `/users/` with the id, which is not empty and has no slash.
pub record IsUser (url : Parts) (id : List ℕ) : Type 0 where
  pub scheme : url.scheme ≡ codes "https"
  pub host : url.host ≡ Some (Domain (codes "example.com"))
  pub port : url.port ≡ None
  pub path : url.path ≡ codes "/users/" ++ id
  pub not_empty : id ≢ []
  pub no_slash : IsTrue (lacks slash id)

-- `url` is the URL of the user whose id is the canonical form of `text`.
abbrev pub IsUrlOfUser : Parts → (text : List ℕ) → Type 0
IsUrlOfUser url text = (id : List ℕ) × (canonical_pathname text ≡ Ok id) × IsUser url id

-- The URL is not the URL of a user.
abbrev pub IsNoUser : Parts → Type 0
IsNoUser url = (id : List ℕ) → ¬ IsUser url id

-- The text of the pattern of users.
abbrev pub users_text : List ℕ
users_text = chars (codes "https://example.com/users/:id")

-- The options that `Users::new` passes, the default ones.
abbrev pub default_asked : UrlPatternOptions
default_asked = record { regex_syntax = Rust; ignore_case = false }

-- The pattern is compiled from `users_text` under the default options, and keeps the parts of the
-- text.
pub record IsPatternOfUsers (pattern : UrlPattern PatternRegexp) : Type 0 where
  pub compiled : IsPatternOfText pattern_engine users_text None default_asked (pattern_view pattern)
  pub kept : KeepsPartsOfText pattern_engine users_text None default_asked pattern
