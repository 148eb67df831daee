-- The URL of a pattern with groups that are cut out of a text, or why there is none. `given` says
-- where the name and the text of each group are.
use Rattle.std.specs.Prelude.{◌≢◌, ℕ, Any, List}
use Rattle.std.specs.List.{AllZip}
use Rattle.url.specs.Parts.{Parts}
use Rattle.urlpattern_engine.specs.PatternRegexps.{pattern_result}
use Rattle.urlpattern_engine.specs.declared.pattern_regexp.PatternRegexp.{PatternRegexp}
use Rattle.urlpattern_generate.specs.WriteSettings.{given_groups}
use Rattle.urlpattern_ffi_links.specs.GivenBytes.{GiveGroups, GivesGroup, GivesNothing, GroupOfBytes}
use Rattle.urlpattern_ffi_links.specs.declared.given.GivenBytes.{GivenBytes}
use Rattle.urlpattern_ffi_links.specs.declared.given_link.Unlinked.{Unlinked}
use Rattle.urlpattern_ffi_links.specs.declared.given_link.Unlinked.TheVariants as unlinked
use Rattle.urlpattern_pattern.specs.LinkedUrls.{IsLink, RejectsLink}
use Rattle.urlpattern_pattern.specs.UrlPatterns.{UrlPattern}
use Rattle.urlpattern_generate.specs.declared.no_link.NoLink.{NoLink}
use Rattle.urlpattern_generate.specs.declared.no_link.NoLink.TheVariants as no_link

-- `url` is the URL of the pattern with the groups that `given` cuts out of `text`.
abbrev pub IsLinkOfBytes : UrlPattern PatternRegexp → (text : List ℕ) → List GivenBytes → Parts
    → Type 0
IsLinkOfBytes pattern text given url =
    (groups : List GroupOfBytes) × AllZip (GivesGroup text) given groups
    × IsLink pattern_result pattern (given_groups groups) url

-- The pattern has no URL with the groups that `given` cuts out of `text`, for the reason `error`.
abbrev pub RejectsLinkOfBytes : UrlPattern PatternRegexp → (text : List ℕ) → List GivenBytes
    → NoLink → Type 0
RejectsLinkOfBytes pattern text given error =
    (error ≢ no_link.OutOfMemory)
    × ((groups : List GroupOfBytes) × AllZip (GivesGroup text) given groups
    × RejectsLink pattern_result pattern (given_groups groups) error)

-- The reason why there is no URL: an element of `given` cuts no group out of `text`, the pattern
-- has no URL with the groups, or memory ran out although each element cuts out a group.
abbrev pub IsUnlinked : UrlPattern PatternRegexp → (text : List ℕ) → List GivenBytes → Unlinked
    → Type 0
IsUnlinked pattern text given unlinked.Given = Any (GivesNothing text) given
IsUnlinked pattern text given (unlinked.NoLink error) = RejectsLinkOfBytes pattern text given error
IsUnlinked pattern text given unlinked.OutOfMemory = GiveGroups text given
