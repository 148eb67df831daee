-- Fronts: the fixed texts with which all texts begin that parts match.
use Rattle.std.specs.Prelude.{ℕ, List, [], ◌∷◌, if◌then◌else◌}
use Rattle.urlpattern_compare.specs.Making.{may_miss}
use Rattle.urlpattern_syntax.specs.Parts.{PartView}
use Rattle.urlpattern_syntax.specs.declared.parser.PartType.{PartType}

-- The fixed text with which each copy of a part of this kind begins.
abbrev pub copy_front : PartType → PartView → List ℕ
copy_front PartType.FixedText part = part.value
copy_front kind part = part.prefix

-- The front of the part: the empty text if the part may be left out.
abbrev pub part_front : PartView → List ℕ
part_front part = if may_miss part.modifier then [] else copy_front part.kind part

-- The front of the parts: that of the first part.
abbrev pub front_of : List PartView → List ℕ
front_of [] = []
front_of (part ∷ parts) = part_front part
