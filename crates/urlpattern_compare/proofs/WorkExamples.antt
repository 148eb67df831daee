-- Worked examples of the size of parts.
use Rattle.std.proofs.Common.{◌≡◌, ℕ, List, [], ◌∷◌, codes, refl}
use Rattle.urlpattern_compare.specs.WorkBounds.{parts_size}
use Rattle.urlpattern_syntax.specs.Parts.{PartView}
use Rattle.urlpattern_syntax.specs.declared.parser.{PartModifier.PartModifier, PartType.PartType}

-- A part without modifier: a fixed text, or a wildcard with a prefix.
abbrev fixed : (value : List ℕ) → PartView
fixed value = record { kind = PartType.FixedText; value = value; modifier = PartModifier.None; name = []; prefix = []; suffix = [] }

abbrev wildcard : (kind : PartType) (prefix : List ℕ) → PartView
wildcard kind prefix = record { kind = kind; value = []; modifier = PartModifier.None; name = codes "x"; prefix = prefix; suffix = [] }

size_of_nothing : parts_size [] ≡ 1
size_of_nothing = refl

-- The text `/a/:x`: two characters, the prefix of the name, and the name.
size_of_a_name : parts_size (fixed (codes "/a") ∷ wildcard PartType.SegmentWildcard (codes "/") ∷ []) ≡ 6
size_of_a_name = refl

-- The text `/a*`.
size_of_an_asterisk : parts_size (fixed (codes "/a") ∷ wildcard PartType.FullWildcard [] ∷ []) ≡ 4
size_of_an_asterisk = refl
