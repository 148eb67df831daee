-- What patterns of a path alone say of a request for a path. `answer` is what an engine returns for
-- a text.
use Rattle.std.specs.Borrow.{Bor}
use Rattle.std.specs.Prelude.{◌≡◌, ℕ, Bool, true, false, List, Option, Some, slice_get}
use Rattle.urlpattern.specs.Routes.{IsHead, NoneMatches, NoneServesAt, NoneServesBefore, Routes, Takes}
use Rattle.urlpattern.specs.declared.router.UrlPatternRouter.{UrlPatternRouter}
use Rattle.urlpattern.specs.declared.router.quick.Quick.{Quick}
use Rattle.urlpattern.specs.declared.router.quick.Quick.TheVariants.{NotFound, Served, Unknown}
use Rattle.urlpattern.specs.declared.router.route.Route.{Route}
use Rattle.urlpattern_matches.specs.GroupTexts.{captures_of}
use Rattle.urlpattern_matches.specs.MatchInput.{pathname_alone}
use Rattle.urlpattern_matches.specs.declared.captures.GroupCaptures.{GroupCaptures}
use Rattle.urlpattern_meaning.specs.PartMeaning.{Captures}
use Rattle.urlpattern_components.specs.Eight.{Texts}
use Rattle.urlpattern_paths.specs.PathsAlone.{IsRead}
use Rattle.urlpattern_pattern.specs.Patterns.{pattern_view}
use Rattle.urlpattern_pattern.specs.UrlPatterns.{UrlPattern}

-- Any route.
abbrev pub Any : {T : Type 0} → Route T → Type 0
Any route = Unit {0}

-- The route at an index, for which `Is` holds, has this value and this pattern, which matches the
-- path with these captures, and every text in each other component.
pub record IsReadAt {E T : Type 0} (answer : E → List ℕ → Option Captures) (routes : Routes E T)
    (Is : Route T → Type 0) (path : List ℕ) (index : ℕ) (value : Bor T)
    (pattern : Bor (UrlPattern E)) (groups : GroupCaptures) : Type 0 where
  pub entry : UrlPattern E × Route T
  pub there : slice_get routes index ≡ Some entry
  pub is : Is entry.1
  pub has_value : value.now ≡ entry.1.value
  pub has_pattern : pattern.now ≡ entry.0
  pub read : IsRead answer (pattern_view pattern.now) path (captures_of groups)

-- The route at the index is not one for which `Is` holds, or it does not match the texts; if
-- `is_unmatched`, it does not match them.
abbrev pub IsPassed : {E T : Type 0} → (answer : E → List ℕ → Option Captures) → Routes E T
    → (Is : Route T → Type 0) → Texts → (index : ℕ) → (is_unmatched : Bool) → Type 0
IsPassed answer routes Is texts index is_unmatched =
    NoneServesAt answer routes Is texts index
    × (is_unmatched ≡ true → NoneServesAt answer routes Any texts index)

-- What the pattern of the route at an index says. `Served`: `Is` holds for the route, which matches
-- the path. `Unknown`: it is not one of a path alone.
abbrev pub IsQuickAt : {E T : Type 0} → (answer : E → List ℕ → Option Captures) → Routes E T
    → (Is : Route T → Type 0) → (path : List ℕ) → (index : ℕ) → Quick T E → Type 0
IsQuickAt answer routes Is path index (Served number value pattern groups) =
    (number ≡ index) × IsReadAt answer routes Is path number value pattern groups
IsQuickAt answer routes Is path index NotFound = ⊥
IsQuickAt answer routes Is path index Unknown = Unit {0}

-- What patterns of a path alone say of a request. `Served`: the route takes the method and matches
-- the path, and no route before it does. `NotFound`: no route matches. `Unknown`: nothing is said.
abbrev pub IsQuick : {E T : Type 0} → (answer : E → List ℕ → Option Captures)
    → UrlPatternRouter T E → (method path : List ℕ) → Quick T E → Type 0
IsQuick answer router method path (Served index value pattern groups) =
    (¬ IsHead router method)
    × IsReadAt answer router.routes (Takes method) path index value pattern groups
    × NoneServesBefore answer router.routes (Takes method) (pathname_alone path) index
IsQuick answer router method path NotFound = NoneMatches answer router.routes (pathname_alone path)
IsQuick answer router method path Unknown = Unit {0}

-- What is said once no route is left: that none matches, if `is_missing`.
abbrev pub quick_end : {E T : Type 0} → (is_missing : Bool) → Quick T E
quick_end true = NotFound
quick_end false = Unknown
