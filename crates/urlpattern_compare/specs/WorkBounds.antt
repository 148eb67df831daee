-- How much work comparing two lists of parts takes at most.
use Rattle.std.specs.Prelude.{◌+◌, ◌≤◌, ℕ, List, [], ◌∷◌, length}
use Rattle.urlpattern_compare.specs.Comparing.{IsReasonFor, IsReasonToShare}
use Rattle.urlpattern_compare.specs.declared.coverage.Reason.TheVariants.{TooMany}
use Rattle.urlpattern_compare.specs.declared.search.TheConstants.{FEW_STATES}
use Rattle.urlpattern_meaning.specs.PartMeaning.{AreGenerated}
use Rattle.urlpattern_syntax.specs.Parts.{PartView, parts_view}
use Rattle.urlpattern_syntax.specs.declared.parser.PartType.{PartType}
use Rattle.urlpattern_syntax.specs.declared.parts.ComponentParts.{ComponentParts}

-- How often a wildcard of this kind is counted: a segment wildcard twice.
abbrev pub wildcard_size : PartType → ℕ
wildcard_size PartType.SegmentWildcard = 2
wildcard_size PartType.FullWildcard = 1
wildcard_size kind = 0

-- The number of characters and wildcards of a part of this kind.
abbrev pub part_size : PartType → PartView → ℕ
part_size PartType.FixedText part = length part.value
part_size kind part = length part.prefix + (wildcard_size kind + length part.suffix)

-- The number of characters and wildcards of the parts, with 1 added.
abbrev pub parts_size : List PartView → ℕ
parts_size [] = 1
parts_size (part ∷ parts) = parts_size parts + part_size part.kind part

-- The size of the parts of a component.
abbrev pub component_size : ComponentParts → ℕ
component_size component = parts_size (parts_view component.parts.items)

-- To find whether a component covers another, or whether the two overlap, does not take too much
-- work if no part is custom, and the sizes of both are at most `FEW_STATES` together.
abbrev pub SmallAreCompared : Type 0
SmallAreCompared =
    (component other : ComponentParts)
    → AreGenerated (parts_view component.parts.items)
    → AreGenerated (parts_view other.parts.items)
    → component_size component + component_size other ≤ FEW_STATES
    → (¬ IsReasonFor component other TooMany) × ¬ IsReasonToShare component other TooMany
