-- Patterns of a path alone, which match every text in each other component. `answer` is what an
-- engine returns for a text.
use Rattle.std.specs.Prelude.{◌≡◌, ◌≢◌, ◌∷◌, [], ⊤, ℕ, IsTrue, List, None, Option, Some, false}
use Rattle.std.specs.Str.{all_scalars}
use Rattle.urlpattern_components.specs.Eight.{Texts, at}
use Rattle.urlpattern_components.specs.declared.eight.ComponentName.{ComponentName}
use Rattle.urlpattern_components.specs.declared.eight.ComponentName.TheVariants.{Pathname}
use Rattle.urlpattern_init.specs.UrlTexts.{IsLine}
use Rattle.urlpattern_matcher.specs.Components.{IsEngineOf, engine_flags}
use Rattle.urlpattern_matcher.specs.declared.regexp.RegExp.{Ghosts as Engine}
use Rattle.urlpattern_matches.specs.GroupTexts.{captures_of}
use Rattle.urlpattern_meaning.specs.FirstResults.{AcceptedText}
use Rattle.urlpattern_meaning.specs.Matching.{IsMadeOf, MatcherView, Returns}
use Rattle.urlpattern_meaning.specs.PartMeaning.{Captures}
use Rattle.urlpattern_paths.specs.PathCaptures.{captured}
use Rattle.urlpattern_paths.specs.Templates.{template_captured}
use Rattle.urlpattern_paths.specs.declared.by_parts.PathReading.{PathReading}
use Rattle.urlpattern_paths.specs.declared.by_parts.PathReading.TheVariants as readings
use Rattle.urlpattern_paths.specs.declared.template.PathTemplate.{PathTemplate}
use Rattle.urlpattern_pattern.specs.Patterns.{PatternView}
use Rattle.urlpattern_syntax.specs.ComponentParts.{kept_options, kept_parts}
use Rattle.urlpattern_syntax.specs.Parts.{PartView}
use Rattle.urlpattern_syntax.specs.Text.{lacks, line_feed}
use Rattle.urlpattern_syntax.specs.declared.parts.ComponentParts.{ComponentParts}

-- The matcher matches every text, and captures all of it.
abbrev pub CapturesAll : {E : Type 0} → (answer : E → List ℕ → Option Captures) → MatcherView E
    → Type 0
CapturesAll answer matcher = (text : List ℕ) → Returns answer matcher text (Some (Some text ∷ []))

-- Each component but the path matches every text, and captures all of it.
abbrev pub OthersCaptureAll : {E : Type 0} → (answer : E → List ℕ → Option Captures)
    → PatternView E → Type 0
OthersCaptureAll answer pattern =
    (name : ComponentName) → name ≢ Pathname → CapturesAll answer (pattern name).matcher

-- The matcher returns what the parts capture, for each line.
abbrev pub ReturnsCaptured : {E : Type 0} → (answer : E → List ℕ → Option Captures)
    → List PartView → MatcherView E → Type 0
ReturnsCaptured answer parts matcher =
    (text : List ℕ) → IsTrue (lacks line_feed text) → IsTrue (all_scalars text) →
    Returns answer matcher text (captured parts text)

-- `engine` makes the matcher of the parts in `kept`, and accepts each regular expression that the
-- matcher needs.
pub record IsMadeOfKept {E : Type 0} (engine : Engine E) (kept : ComponentParts)
    (matcher : MatcherView E) : Type 0 where
  pub is_made : IsMadeOf (IsEngineOf engine false (engine_flags (kept_options kept)))
      (kept_options kept) (kept_parts kept) matcher
  pub has_engine : AcceptedText (λ value. ⊤) matcher.inner

-- The pattern matches every text in each component but the path, and a line as a path if the
-- template does, with the same captures.
pub record IsReadBy {E : Type 0} (answer : E → List ℕ → Option Captures) (pattern : PatternView E)
    (template : PathTemplate) : Type 0 where
  pub others : OthersCaptureAll answer pattern
  pub path : (path : List ℕ) → IsLine path
      → Returns answer (pattern Pathname).matcher path (template_captured template path)

-- What the components capture: the path `groups`, and each other component all of its text.
abbrev pub captures_with_path : Texts → (groups : Captures) → ComponentName → Captures
captures_with_path texts groups Pathname = groups
captures_with_path texts groups name = Some (at texts name) ∷ []

-- The pattern matches the path with these captures, and every text in each other component.
abbrev pub IsRead : {E : Type 0} → (answer : E → List ℕ → Option Captures) → PatternView E
    → (path : List ℕ) → (groups : Captures) → Type 0
IsRead answer pattern path groups =
    OthersCaptureAll answer pattern
    × Returns answer (pattern Pathname).matcher path (Some groups)

-- What is read of a path by a template. `Matched`: its captures. `Unmatched`: the template does not
-- match it. `Unknown`: nothing is said.
abbrev pub IsReading : PathTemplate → (path : List ℕ) → PathReading → Type 0
IsReading template path (readings.Matched groups) =
    template_captured template path ≡ Some (captures_of groups)
IsReading template path readings.Unmatched = template_captured template path ≡ None
IsReading template path readings.Unknown = Unit {0}
