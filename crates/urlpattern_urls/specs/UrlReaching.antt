-- Whether a pattern of a list is the first one that matches some URL.
use Rattle.std.specs.List.{flat_map}
use Rattle.std.specs.Prelude.{◌+◌, ◌++◌, ◌-◌, ◌<◌, ℕ, All, List, [], ◌∷◌, length, map, nat_lt, if◌then◌else◌}
use Rattle.urlpattern_compare.specs.CoveringTogether.{AreAscending, AreNeeded, at_each}
use Rattle.urlpattern_compare.specs.declared.candidates.Limits.{Limits}
use Rattle.urlpattern_compare.specs.declared.common_texts.PatternAutomata.{PatternAutomata}
use Rattle.urlpattern_urls.specs.CommonUrls.{AreCommonOf, AreOfNoUrl, IsUnknownUrl, NoUrlIsCommon, url_at}
use Rattle.urlpattern_urls.specs.declared.url_reach.UrlReach.{UrlReach}
use Rattle.urlpattern_urls.specs.declared.url_reach.UrlReach.TheVariants as reaches

-- The patterns at the indices `by`, which ascend, match each URL that the asked one matches, and no
-- index can be left out: without it, the patterns at the later ones and all that are before it are
-- not known to, together with `facts`, the patterns for texts unlike those of a URL.
pub record IsUrlCover (facts : List PatternAutomata) (limits : Limits)
    (patterns : List PatternAutomata) (asked : PatternAutomata) (by : List ℕ) : Type 0 where
  pub within : All (λ index. index < length patterns) by
  pub ascending : AreAscending by
  pub cover : NoUrlIsCommon (asked ∷ []) (at_each patterns by)
  pub needed : AreNeeded limits (facts ++ patterns) asked (map (λ index. length facts + index) by)

-- What each `UrlReach` of the asked pattern says, after the patterns `earlier`. First: it matches
-- the URL, and no earlier pattern does. Never: the earlier patterns at the indices cover it. Texts,
-- Unknown: what `find_common` says.
abbrev pub IsUrlReach : (facts : List PatternAutomata) → Limits → (earlier : List PatternAutomata)
    → (asked : PatternAutomata) → UrlReach → Type 0
IsUrlReach facts limits earlier asked (reaches.First url) =
    AreCommonOf (asked ∷ []) earlier (url_at url)
IsUrlReach facts limits earlier asked (reaches.Never by) =
    IsUrlCover facts limits earlier asked by.items
IsUrlReach facts limits earlier asked (reaches.Texts texts reason) =
    AreOfNoUrl facts (asked ∷ []) earlier texts reason
IsUrlReach facts limits earlier asked (reaches.Unknown doubt) =
    IsUnknownUrl facts (asked ∷ []) earlier limits doubt

-- ---- steps

-- The index less `count`, if it is at least that.
abbrev pub later_one : (count index : ℕ) → List ℕ
later_one count index = if nat_lt index count then [] else ((index - count) ∷ [])

-- The indices that are at least `count`, less it.
abbrev pub later : (count : ℕ) → List ℕ → List ℕ
later count indices = flat_map (later_one count) indices
