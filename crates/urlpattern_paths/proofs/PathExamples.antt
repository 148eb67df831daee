-- Worked examples of what parts and templates capture in a path.
use Rattle.std.proofs.Common.{◌≡◌, ℕ, List, [], ◌∷◌, refl, false, true, Option, Some, None}
use Rattle.std.specs.Prelude.{codes}
use Rattle.urlpattern_meaning.proofs.PrintingExamples.{plain}
use Rattle.urlpattern_meaning.specs.PartMeaning.{Captures}
use Rattle.urlpattern_paths.specs.PathCaptures.{are_read_once, captured}
use Rattle.urlpattern_paths.specs.Templates.{captured_by, captured_last}
use Rattle.urlpattern_syntax.proofs.RegexpTextExamples.{group}
use Rattle.urlpattern_syntax.specs.Parts.{PartView}
use Rattle.urlpattern_syntax.specs.declared.parser.PartModifier.TheVariants as modifiers
use Rattle.urlpattern_syntax.specs.declared.parser.PartType.TheVariants.{FullWildcard, SegmentWildcard}

-- The pattern `/users/:id/files/*`.
abbrev pub files : List PartView
files =
    plain (codes "/users") ∷ group SegmentWildcard (codes "/") (codes "id") [] modifiers.None
    ∷ plain (codes "/files") ∷ group FullWildcard (codes "/") (codes "0") [] modifiers.None ∷ []

pub files_once : are_read_once files ≡ true
files_once = refl

pub files_captured : captured files (codes "/users/7/files/a/b") ≡ Some (Some (codes "7") ∷ Some (codes "a/b") ∷ [])
files_captured = refl

-- A wildcard may capture nothing, a segment may not.
pub nothing_captured : captured files (codes "/users/7/files/") ≡ Some (Some (codes "7") ∷ Some [] ∷ [])
nothing_captured = refl

pub no_empty_segment : captured files (codes "/users//files/a") ≡ None
no_empty_segment = refl

-- The pattern `/:from-:to`: which hyphen ends the first name isn't known when it is read.
abbrev pub range : List PartView
range =
    group SegmentWildcard (codes "/") (codes "from") [] modifiers.None ∷ plain (codes "-")
    ∷ group SegmentWildcard [] (codes "to") [] modifiers.None ∷ []

pub range_not_once : are_read_once range ≡ false
range_not_once = refl

-- The template of `/users/:id/files/*` captures what its parts do.
abbrev pub by_template : (path : List ℕ) → Option Captures
by_template = captured_by (captured_last true) (codes "/users/\n/files/")

pub captured_by_template : by_template (codes "/users/7/files/a/b") ≡ captured files (codes "/users/7/files/a/b")
captured_by_template = refl

-- Without a wildcard, nothing may be left after the last segment.
pub rest_not_taken : captured_by (captured_last false) (codes "/\n") (codes "/a/b") ≡ None
rest_not_taken = refl
