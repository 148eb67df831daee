-- Templates: the parts of a path as one short text.
use Rattle.std.specs.Prelude.{◌≡◌, ℕ, Bool, true, false, ◌==◌, List, [], ◌∷◌, Option, Some, option_map, if◌then◌else◌}
use Rattle.std.specs.Str.{chars}
use Rattle.urlpattern_meaning.specs.PartMeaning.{Captures}
use Rattle.urlpattern_paths.specs.PathCaptures.{Read, after_front, captured, captured_after, read_first_segment, read_text}
use Rattle.urlpattern_paths.specs.declared.template.PathTemplate.{PathTemplate}
use Rattle.urlpattern_syntax.specs.Parts.{PartView}
use Rattle.urlpattern_syntax.specs.Text.{line_feed}

-- What a character of a template reads of a path: a line feed a segment, which is captured, and
-- each other character itself.
abbrev pub read_character : ℕ → (path : List ℕ) → Option Read
read_character c path =
    if c == line_feed then read_first_segment (Some path)
    else option_map read_text (after_front (c ∷ []) path)

-- What the characters capture in a path, where `last` says what is captured of the rest.
abbrev pub captured_by : (last : List ℕ → Option Captures) → (text path : List ℕ)
    → Option Captures
captured_by last [] path = last path
captured_by last (c ∷ text) path = captured_after (captured_by last text) (read_character c path)

-- What is captured of the rest of a path: all of it, if a wildcard takes it. If none does, there
-- is no rest.
abbrev pub captured_last : (takes_rest : Bool) → (rest : List ℕ) → Option Captures
captured_last true rest = Some (Some rest ∷ [])
captured_last false rest = captured [] rest

-- What a template captures in a path, in order. None: it does not match the path.
abbrev pub template_captured : PathTemplate → (path : List ℕ) → Option Captures
template_captured template =
    captured_by (captured_last template.takes_rest) (chars template.text.bytes)

-- The template captures in each path what the parts do.
abbrev pub IsTemplateOf : List PartView → PathTemplate → Type 0
IsTemplateOf parts template =
    (path : List ℕ) → template_captured template path ≡ captured parts path
