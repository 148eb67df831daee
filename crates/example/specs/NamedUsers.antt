-- What the group for the user captures of a URL or of a path. `answer` is what an engine returns
-- for a text.
use Rattle.std.specs.Prelude.{◌≡◌, ◌⊎◌, ℕ, List, codes, Option, None, Some}
use Rattle.std.specs.Str.{chars}
use Rattle.url.specs.Parts.{Parts}
use Rattle.urlpattern.specs.Match.{HasNoMatch, IsMatch, IsMatchOf, DoesNotMatch}
use Rattle.urlpattern.specs.ResultViews.{ResultView, captured_text}
use Rattle.urlpattern.specs.MatchInput.{pathname_alone}
use Rattle.urlpattern.specs.Patterns.{PatternView}
use Rattle.urlpattern.specs.PartMeaning.{Captures}
use Rattle.urlpattern.specs.UrlTexts.{IsLine}
use Rattle.urlpattern.specs.UrlPatternMatchInput.{UrlPatternMatchInput}
use Rattle.urlpattern.specs.UrlPatternMatchInput.TheVariants as inputs
use Rattle.urlpattern.specs.ComponentName.{ComponentName}
use Rattle.urlpattern.specs.ComponentName.TheVariants.{Pathname}

-- The pattern matches the input, and `capture` is what the group `name` of the component captures.
-- `None`: there is no such group, or it takes no part.
abbrev pub IsCaptured : {E : Type 0} → (answer : E → List ℕ → Option Captures) → PatternView E
    → UrlPatternMatchInput → ComponentName → (name : List ℕ) → Option (List ℕ) → Type 0
IsCaptured answer pattern input component name capture =
    (result : ComponentName → ResultView) × IsMatch answer pattern input result
    × (captured_text (result component) name ≡ capture)

-- The pattern of users matches the URL, and `user` is what the group `id` of the path captures.
-- `None`: the group takes no part.
abbrev pub NamesUser : {E : Type 0} → (answer : E → List ℕ → Option Captures)
    → (users : PatternView E) → Parts → Option (List ℕ) → Type 0
NamesUser answer users url user =
    IsCaptured answer users (inputs.Url url) Pathname (chars (codes "id")) user

-- The URL names no user: the pattern of users does not match it, or the group takes no part.
abbrev pub NamesNone : {E : Type 0} → (answer : E → List ℕ → Option Captures)
    → (users : PatternView E) → Parts → Type 0
NamesNone answer users url =
    HasNoMatch answer users (inputs.Url url) ⊎ NamesUser answer users url None

-- The pattern of users matches the path, all other components being empty, and `id` is what the
-- group `id` captures. `None`: the group takes no part.
abbrev pub CapturesIdOfPath : {E : Type 0} → (answer : E → List ℕ → Option Captures)
    → (users : PatternView E) → (path : List ℕ) → Option (List ℕ) → Type 0
CapturesIdOfPath answer users path id =
    (result : ComponentName → ResultView) × IsMatchOf answer users (pathname_alone path) result
    × (captured_text (result Pathname) (chars (codes "id")) ≡ id)

-- The path is a line, the pattern of users matches it, and the group `id` captures `user`.
abbrev pub PathNamesUser : {E : Type 0} → (answer : E → List ℕ → Option Captures)
    → (users : PatternView E) → (path user : List ℕ) → Type 0
PathNamesUser answer users path user =
    IsLine path × CapturesIdOfPath answer users path (Some user)

-- The path names no user: it is no line, the pattern of users does not match it, or the group takes
-- no part.
abbrev pub PathNamesNone : {E : Type 0} → (answer : E → List ℕ → Option Captures)
    → (users : PatternView E) → (path : List ℕ) → Type 0
PathNamesNone answer users path =
    (¬ IsLine path)
    ⊎ DoesNotMatch answer users (pathname_alone path)
    ⊎ CapturesIdOfPath answer users path None
